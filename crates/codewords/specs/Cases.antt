-- The known cases of document 01, marked there with a star, that speak of these definitions.
use Rattle.basics.specs.Outcome.{Done, Refused}
use Rattle.std.specs.Prelude.{ℕ, ◌≡◌, true, List, [], ◌∷◌}
use Rattle.basics.specs.declared.Refusal.TheVariants.{Singular}
use Rattle.field.specs.Galois.{IsField, galois}
use Rattle.elliptic.specs.declared.Curve.{Curve}
use Rattle.elliptic.specs.Curve.{point, opposite, affine_points}
use Rattle.codewords.specs.Code.{Code, code_answer}
use Rattle.codewords.specs.Codewords.{index, unit_message, agreeing, agreeing_functions, dependent, relations, pick}

abbrev pub curve : ℕ → ℕ → ℕ → ℕ → ℕ → Curve
curve a b c d e = record { g1 = a; g2 = b; g3 = c; g4 = d; g6 = e }

-- curve 0,0,1,0,0 with its eight points
unfoldable pub A : ℕ → Code
A k =
    record {
      field = 2;
      curve = curve 0 0 1 0 0;
      xs = 0 ∷ 0 ∷ 1 ∷ 1 ∷ 2 ∷ 2 ∷ 3 ∷ 3 ∷ [];
      ys = 0 ∷ 1 ∷ 2 ∷ 3 ∷ 2 ∷ 3 ∷ 2 ∷ 3 ∷ [];
      k = k;
    }

-- curve 1,0,0,0,1 with its seven points
unfoldable pub B : ℕ → Code
B k =
    record {
      field = 2;
      curve = curve 1 0 0 0 1;
      xs = 0 ∷ 1 ∷ 1 ∷ 2 ∷ 2 ∷ 3 ∷ 3 ∷ [];
      ys = 1 ∷ 0 ∷ 1 ∷ 0 ∷ 2 ∷ 0 ∷ 3 ∷ [];
      k = k;
    }

-- places 1,2,3,5,8
abbrev five : List ℕ
five = 1 ∷ 2 ∷ 3 ∷ 5 ∷ 8 ∷ []

pub record KnownCases : Type 0 where
  -- "A: points (0,0) (0,1) (1,2) (1,3) (2,2) (2,3) (3,2) (3,3)"
  pub points_A : affine_points (galois 2) (A 1).curve
      ≡ point 0 0 ∷ point 0 1 ∷ point 1 2 ∷ point 1 3 ∷ point 2 2 ∷ point 2 3 ∷ point 3 2 ∷ point 3 3 ∷ []
  -- "B: seven points, (0,1) first, its own opposite"
  pub points_B : affine_points (galois 2) (B 1).curve ≡ point 0 1 ∷ point 1 0 ∷ point 1 1 ∷ point 2 0 ∷ point 2 2 ∷ point 3 0 ∷ point 3 3 ∷ []
  pub own_opposite : opposite (galois 2) (B 1).curve (point 0 1) ≡ point 0 1
  -- "curve 0,0,1,0,2, m = 2: count 0. Curve all zero: 3", whatever the field, the points and k
  pub no_points : affine_points (galois 2) (curve 0 0 1 0 2) ≡ []
  pub all_zero : (m : ℕ) → IsField m → (xs ys : List ℕ) (k : ℕ) → code_answer (record { field = m; curve = curve 0 0 0 0 0; xs = xs; ys = ys; k = k }) ≡ Refused Singular
  -- "A, k = 5, places 1,2,3,5,8: functions for the unit messages in turn"
  pub unit_0 : agreeing_functions (A 5) five (unit_message 5 (index 0)) ≡ (1 ∷ 0 ∷ 1 ∷ 2 ∷ 3 ∷ []) ∷ []
  pub unit_1 : agreeing_functions (A 5) five (unit_message 5 (index 1)) ≡ (0 ∷ 1 ∷ 1 ∷ 1 ∷ 1 ∷ []) ∷ []
  pub unit_2 : agreeing_functions (A 5) five (unit_message 5 (index 2)) ≡ (0 ∷ 0 ∷ 0 ∷ 2 ∷ 2 ∷ []) ∷ []
  pub unit_3 : agreeing_functions (A 5) five (unit_message 5 (index 3)) ≡ (0 ∷ 2 ∷ 0 ∷ 1 ∷ 2 ∷ []) ∷ []
  pub unit_4 : agreeing_functions (A 5) five (unit_message 5 (index 4)) ≡ (0 ∷ 3 ∷ 0 ∷ 0 ∷ 2 ∷ []) ∷ []
  -- "A, k = 2, places 1,2: 12. B, k = 2, places 1,2, message 1,0: function 1,1, word 1,0,0,3,3,2,2"
  pub pair_A : dependent (A 2) (1 ∷ 2 ∷ []) ≡ true
  pub function_B : agreeing_functions (B 2) (1 ∷ 2 ∷ []) (1 ∷ 0 ∷ []) ≡ (1 ∷ 1 ∷ []) ∷ []
  pub word_B : agreeing (B 2) (1 ∷ 2 ∷ []) (1 ∷ 0 ∷ []) ≡ (1 ∷ 0 ∷ 0 ∷ 3 ∷ 3 ∷ 2 ∷ 2 ∷ []) ∷ []
  -- "A, k = 3, places 3,5,7: 12; Relation 2,0,1. Pick of 3,5,7,1: 3,5,1"
  pub line_A : dependent (A 3) (3 ∷ 5 ∷ 7 ∷ []) ≡ true
  pub line_relation : relations (A 3) (3 ∷ 5 ∷ 7 ∷ []) ≡ (2 ∷ 0 ∷ 1 ∷ []) ∷ []
  pub line_pick : pick (A 3) (3 ∷ 5 ∷ 7 ∷ 1 ∷ []) ≡ 3 ∷ 5 ∷ 1 ∷ []
  -- "A, k = 4, places 1,2,3,4: Relation 0,1,0,1"
  pub four_relation : relations (A 4) (1 ∷ 2 ∷ 3 ∷ 4 ∷ []) ≡ (0 ∷ 1 ∷ 0 ∷ 1 ∷ []) ∷ []
  -- "A, k = 5, Rebuild of 1,2,3,5,8 with 1,0,0,0,0 gives the word above; with place 4 and symbol 0 added, 14"
  pub rebuilt : agreeing (A 5) five (1 ∷ 0 ∷ 0 ∷ 0 ∷ 0 ∷ []) ≡ (1 ∷ 0 ∷ 0 ∷ 2 ∷ 0 ∷ 0 ∷ 3 ∷ 0 ∷ []) ∷ []
  pub not_rebuilt : agreeing (A 5) (1 ∷ 2 ∷ 3 ∷ 5 ∷ 8 ∷ 4 ∷ []) (1 ∷ 0 ∷ 0 ∷ 0 ∷ 0 ∷ 0 ∷ []) ≡ []
  -- the codes are accepted
  pub accepted_A : (code_answer (A 2) ≡ Done) × (code_answer (A 3) ≡ Done) × (code_answer (A 4) ≡ Done) × (code_answer (A 5) ≡ Done)
  pub accepted_B : code_answer (B 2) ≡ Done
