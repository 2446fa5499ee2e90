-- The places of a 64-bit number's set bits.
use Rattle.std.specs.Prelude.{ℕ, ◌+◌, List, map}
use Rattle.basics.specs.SetBits.{set_bits}

-- ascending; bit 0 stands for the place after so many others
unfoldable pub places_of : ℕ → ℕ → List ℕ
places_of before x = map (λ i. before + i + 1) (set_bits 64 x)
