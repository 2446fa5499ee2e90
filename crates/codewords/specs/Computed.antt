-- What the operations compute in place of the lists of specs/Codewords.antt, which no one could go through: all is read off the pair and the interpolant
-- that specs/Pair.antt of the crate elliptic defines.
use Rattle.std.specs.Prelude.{ℕ, ◌-◌, ◌<◌, ◌≤◌, ◌≡◌, Bool, true, cond, List, [], ◌∷◌, ◌++◌, map, eqb, length, get_or, take}
use Rattle.basics.specs.Lists.{same}
use Rattle.field.specs.Field.{Arithmetic}
use Rattle.elliptic.specs.declared.Point.{Point}
use Rattle.elliptic.specs.Curve.{point}
use Rattle.elliptic.specs.Pair.{evaluate, padded, step, after}
use Rattle.codewords.specs.Code.{Code, arithmetic, n, points}
use Rattle.codewords.specs.Codewords.{place, index, agrees, unit_message, point_at, places, choice, symbols, message, word, codeword, recovered, agreed}
use Rattle.codewords.specs.Codewords.{systematic_word, systematic_function, matrix, dependent, usable, relation, pick}

module _ (F : Arithmetic) (k : ℕ) where
  -- L of the first k − 1 points is zero at the next
  unfoldable pub last_zero : List Point → List ℕ → Bool
  last_zero pts us = eqb (evaluate F (after F pts us (k - 1)).low (get_or pts (k - 1) (point 0 0))) 0

  -- the index of the last point that is used: k − 1 or, where L is zero there, k
  unfoldable pub last_index : List Point → List ℕ → ℕ
  last_index pts us = cond (last_zero pts us) k (k - 1)

  -- the interpolant of the first k − 1 points and that one, as k coefficients
  unfoldable pub solved : List Point → List ℕ → List ℕ
  solved pts us = let i = last_index pts us in padded k (step F (get_or pts i (point 0 0)) (get_or us i 0) (after F pts us (k - 1))).word

-- the points at the places
abbrev pub points_of : Code → List ℕ → List Point
points_of code J = map (λ p. point_at code (place p)) J

-- what is solved for at places with their symbols
abbrev pub solution : Code → List ℕ → List ℕ → List ℕ
solution code J us = solved (arithmetic code) code.k (points_of code J) us

-- places with their symbols, as Rebuild takes them: k usable places or more
pub record Enough (code : Code) (J us : List ℕ) : Type 0 where
  pub are_places : places code J ≡ true
  pub are_symbols : symbols code us ≡ true
  pub lengths : length us ≡ length J
  pub at_least : code.k ≤ length J
  pub works : length J ≡ code.k → usable code J ≡ true

pub record Computed (code : Code) : Type 0 where
  -- Plain: the values by Horner's rule
  pub word_by : (f : List ℕ) → message code f ≡ true → word code f ≡ map (evaluate (arithmetic code) f) (points code)
  -- the test of number 12, whatever the symbols
  pub dependent_by : (J us : List ℕ) → choice code J ≡ true → symbols code us ≡ true
      → dependent code J ≡ last_zero (arithmetic code) code.k (points_of code J) us
  -- Relation
  pub relation_by : (J us : List ℕ) → choice code J ≡ true → symbols code us ≡ true → dependent code J ≡ true
      → relation code J ≡ (after (arithmetic code) (points_of code J) us (code.k - 1)).low
  -- Systematic function, Systematic word and the rows of Matrix
  pub function_by : (J msg : List ℕ) → choice code J ≡ true → message code msg ≡ true → usable code J ≡ true
      → systematic_function code J msg ≡ solution code J msg
  pub systematic_by : (J msg : List ℕ) → choice code J ≡ true → message code msg ≡ true → usable code J ≡ true
      → systematic_word code J msg ≡ word code (solution code J msg)
  pub row_by : (J : List ℕ) → choice code J ≡ true → usable code J ≡ true → (i : ℕ) → i < code.k
      → get_or (matrix code J) i [] ≡ word code (solution code J (unit_message code.k (index i)))
  -- Pick of more than k places, whatever the symbols
  pub pick_by : (ranked us : List ℕ) → places code ranked ≡ true → symbols code us ≡ true → code.k < length ranked
      → pick code ranked ≡ take (code.k - 1) ranked ++ get_or ranked (last_index (arithmetic code) code.k (points_of code ranked) us) 0 ∷ []
  -- what is solved for is k coefficients below q
  pub solved_coefficients : (J us : List ℕ) → Enough code J us → message code (solution code J us) ≡ true
  -- Rebuild of k usable places or of more: the one word that can agree, if it does
  pub rebuilt_by : (J us : List ℕ) → Enough code J us → agreed code J us ≡ agrees (word code (solution code J us)) J us
  pub rebuilt_word_by : (J us : List ℕ) → Enough code J us → agreed code J us ≡ true → systematic_word code J us ≡ word code (solution code J us)
  -- Recover: the one list that can have the word, if it does
  pub recovered_coefficients : (w : List ℕ) → symbols code w ≡ true → length w ≡ n code
      → message code (solved (arithmetic code) code.k (points code) w) ≡ true
  pub recovered_by : (w : List ℕ) → symbols code w ≡ true → length w ≡ n code
      → codeword code w ≡ same (word code (solved (arithmetic code) code.k (points code) w)) w
  pub recovered_list_by : (w : List ℕ) → symbols code w ≡ true → length w ≡ n code → codeword code w ≡ true
      → recovered code w ≡ solved (arithmetic code) code.k (points code) w
