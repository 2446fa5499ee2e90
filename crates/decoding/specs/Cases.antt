-- Small cases of the definitions, on the code A of document 01 with k = 2, whose radius is 2.
use Rattle.std.specs.Prelude.{ℕ, ◌≡◌, true, false, List, [], ◌∷◌}
use Rattle.codewords.specs.Cases.{A}
use Rattle.decoding.specs.Near.{distance, radius, near}
use Rattle.decoding.specs.Rows.{kept_places, decoded, decodes}

-- the codeword of X with places 1 and 5 changed, and with place 3 changed too
abbrev two_wrong : List ℕ
two_wrong = 3 ∷ 0 ∷ 1 ∷ 1 ∷ 0 ∷ 2 ∷ 3 ∷ 3 ∷ []

abbrev three_wrong : List ℕ
three_wrong = 3 ∷ 0 ∷ 2 ∷ 1 ∷ 0 ∷ 2 ∷ 3 ∷ 3 ∷ []

pub record SmallCases : Type 0 where
  pub radius_A : radius (A 2) ≡ 2
  pub distance_two : distance two_wrong (0 ∷ 0 ∷ 1 ∷ 1 ∷ 2 ∷ 2 ∷ 3 ∷ 3 ∷ []) ≡ 2
  pub near_two : near (A 2) two_wrong ≡ (0 ∷ 0 ∷ 1 ∷ 1 ∷ 2 ∷ 2 ∷ 3 ∷ 3 ∷ []) ∷ []
  pub near_three : near (A 2) three_wrong ≡ []
  -- and what is computed: E is zero at the wrong places 1 and 5, and at 8
  pub kept_two : kept_places (A 2) two_wrong ≡ 2 ∷ 3 ∷ 4 ∷ 6 ∷ 7 ∷ []
  pub decoded_two : decoded (A 2) two_wrong ≡ 0 ∷ 1 ∷ []
  pub decodes_two : decodes (A 2) two_wrong ≡ true
  pub decodes_three : decodes (A 2) three_wrong ≡ false
  -- n − k = 1: the radius is 0, and a codeword is found
  pub radius_seven : radius (A 7) ≡ 0
  pub decoded_seven : decoded (A 7) (0 ∷ 0 ∷ 1 ∷ 1 ∷ 2 ∷ 2 ∷ 3 ∷ 3 ∷ []) ≡ 0 ∷ 1 ∷ 0 ∷ 0 ∷ 0 ∷ 0 ∷ 0 ∷ []
