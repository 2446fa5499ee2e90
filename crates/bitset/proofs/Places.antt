-- The places of a number's set bits, one by one: the laws of set bits, with places for bits.
use Prim.Native.Nat.{ℕ, ◌+◌, ◌^◌, ◌<◌}
use mathlib.Core.Path.{◌≡◌, sym, ◌∙◌, ap}
use mathlib.Core.List.{[], ◌∷◌, map}
use lib.Count.{ones, count_trailing_zeros}
use lib.ListN.{length, length-map}
use Rattle.basics.specs.SetBits.{set_bits, clear_lowest}
use Rattle.basics.proofs.SetBits.{finds, set_bits_lowest, set_bits_none}
use Rattle.bitset.specs.Places.{places_of}

module _ (before : ℕ) where
  -- as many as the ones: the law of every 64-bit number
  pub places_many : (x : ℕ) → x < 2 ^ 64 → length (places_of before x) ≡ ones x
  unfolding places_of
  places_many x l = length-map (set_bits 64 x) (λ i. before + i + 1) ∙ ap length (sym (finds 64 x l).all_set) ∙ (finds 64 x l).as_many

  pub places_lowest : (x : ℕ) → x < 2 ^ 64 → (x ≡ 0 → ⊥) → places_of before x ≡ (before + count_trailing_zeros 64 x + 1) ∷ places_of before (clear_lowest x)
  unfolding places_of
  places_lowest x l n = ap (map (λ i. before + i + 1)) (set_bits_lowest 64 x l n)

  pub places_none : places_of before 0 ≡ []
  unfolding places_of
  places_none = ap (map (λ i. before + i + 1)) (set_bits_none 64)
