-- Known cases of the definitions.
use Rattle.std.specs.Prelude.{◌+◌, ◌^◌, ◌≡◌, [], ◌∷◌}
use Rattle.std.specs.Int.Count.{ones}
use Rattle.basics.specs.SetBits.{little_endian, set_bits, found}
use Rattle.bitset.specs.Places.{places_of}

pub record Cases : Type 0 where
  pub two_bytes : little_endian (1 ∷ 2 ∷ []) ≡ 513
  pub eight_bytes : little_endian (0 ∷ 0 ∷ 0 ∷ 0 ∷ 0 ∷ 0 ∷ 0 ∷ 128 ∷ []) ≡ 2 ^ 63
  -- 178 is 1011 0010
  pub bits_of_178 : set_bits 8 178 ≡ 1 ∷ 4 ∷ 5 ∷ 7 ∷ []
  pub found_in_178 : found 8 178 ≡ 1 ∷ 4 ∷ 5 ∷ 7 ∷ []
  pub ones_of_178 : ones 178 ≡ 4
  pub found_in_0 : found 64 0 ≡ []
  pub lowest_and_highest : found 64 (2 ^ 63 + 1) ≡ 0 ∷ 63 ∷ []
  -- of the second number of a mask
  pub places_of_5 : places_of 64 5 ≡ 65 ∷ 67 ∷ []
