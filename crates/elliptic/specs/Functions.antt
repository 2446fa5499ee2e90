-- Functions: sums of X^a and X^a·Y, given by their coefficients in the order of weight, and their values.
use Rattle.std.specs.Prelude.{ℕ, zero, suc, max, Bool, not, cond, List, [], ◌∷◌, eqb}
use Rattle.basics.specs.Lists.{any}
use Rattle.field.specs.Sum.{◌⊕◌}
use Rattle.field.specs.Field.{Arithmetic}
use Rattle.elliptic.specs.Curve.{Point}

-- the weight of the monomial at index i: 0, 2, 3, 4, ..; X weighs 2, Y weighs 3, and no monomial weighs 1
unfoldable pub weight : ℕ → ℕ
weight zero = 0
weight (suc i) = suc (suc i)

-- a function is nonzero if at least one of its coefficients is
unfoldable pub nonzero : List ℕ → Bool
nonzero f = any (λ c. not (eqb c 0)) f

-- the leading coefficient, of largest weight among those that are not 0; 0 if all are
unfoldable pub leading : List ℕ → ℕ
leading [] = 0
leading (c ∷ cs) = let rest = leading cs in cond (eqb rest 0) c rest

-- the largest weight with a nonzero coefficient, from index i on, and 0 if there is none
unfoldable pub degree_from : ℕ → List ℕ → ℕ
degree_from i [] = 0
degree_from i (c ∷ cs) = max (cond (eqb c 0) 0 (weight i)) (degree_from (suc i) cs)

-- the weighted degree
unfoldable pub degree : List ℕ → ℕ
degree f = degree_from 0 f

module _ (F : Arithmetic) where
  infixl 70 ◌·◌
  open F use {◌·◌}

  -- the value at a point of the monomial at index i: 1, X, Y, X-as-X, X-as-Y, and after these each is X times the last but one
  unfoldable pub monomial : ℕ → Point → ℕ
  monomial zero P = 1
  monomial (suc zero) P = P.x
  monomial (suc (suc zero)) P = P.y
  monomial (suc (suc (suc i))) P = P.x · monomial (suc i) P

  -- the sum of coefficient times monomial, from index i on
  unfoldable pub sum_from : ℕ → List ℕ → Point → ℕ
  sum_from i [] P = 0
  sum_from i (c ∷ cs) P = c · monomial i P ⊕ sum_from (suc i) cs P

  -- the value of a function at a point
  unfoldable pub value : List ℕ → Point → ℕ
  value f P = sum_from 0 f P
