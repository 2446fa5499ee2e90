-- The set bits of a number, and how a machine word finds them.
use Rattle.std.specs.Prelude.{ℕ, zero, suc, ◌+◌, ◌*◌, ◌-◌, ◌/◌, ◌%◌, ◌^◌, ◌<◌, Bool, cond, List, [], ◌∷◌, ◌≡◌, eqb, length, get_or}
use Rattle.std.specs.Int.Bits.{bit_and}
use Rattle.std.specs.Int.Count.{ones, count_trailing_zeros}
use Rattle.basics.specs.Lists.{filter, table}

-- a list of bytes
abbrev pub Bytes : List ℕ → Type 0
Bytes l = (i : ℕ) → get_or l i 0 < 2 ^ 8

-- bytes as one number, the lowest byte first
unfoldable pub little_endian : List ℕ → ℕ
little_endian [] = 0
little_endian (b ∷ l) = little_endian l * 2 ^ 8 + b

-- bit i of x is set; the lowest is bit 0
abbrev pub is_set : ℕ → ℕ → Bool
is_set x i = eqb (x / 2 ^ i % 2) 1

-- the set bits of a number of w bits, ascending
unfoldable pub set_bits : ℕ → ℕ → List ℕ
set_bits w x = filter (is_set x) (table (λ i. i) w)

-- x without its lowest set bit
abbrev pub clear_lowest : ℕ → ℕ
clear_lowest x = bit_and x (x - 1)

-- the places found in a number of w bits, in at most so many steps: the trailing zeros are counted, the lowest set bit is cleared, until no bit is left
unfoldable pub found_in : ℕ → ℕ → ℕ → List ℕ
found_in w zero x = []
found_in w (suc steps) x = cond (eqb x 0) [] (count_trailing_zeros w x ∷ found_in w steps (clear_lowest x))

abbrev pub found : ℕ → ℕ → List ℕ
found w x = found_in w w x

-- "its ones are as many as the places found in it", and these are exactly its set bits
pub record Finds (w x : ℕ) : Type 0 where
  pub all_set : found w x ≡ set_bits w x
  pub as_many : length (found w x) ≡ ones x
