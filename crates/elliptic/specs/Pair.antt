-- What the coder computes: values by Horner's rule, and for the places so far the pair of functions and the interpolant.
-- A function a(X) + b(X)·Y is the list of its coefficients in weight order: of 1, X, Y, X², XY, X³, ..
use Rattle.std.specs.Prelude.{ℕ, zero, suc, ◌-◌, Bool, true, false, cond, List, [], ◌∷◌, ◌++◌, eqb, ltb, length, get_or, replicate}
use Rattle.field.specs.Sum.{◌⊕◌}
use Rattle.field.specs.Field.{Arithmetic}
use Rattle.elliptic.specs.Curve.{Point, point}

-- how many coefficients the factor X adds to n of them: to a constant one, and else two
abbrev pub growth : ℕ → ℕ
growth n = cond (eqb n 1) 1 2

-- f as k coefficients, with zeros after its own
abbrev pub padded : ℕ → List ℕ → List ℕ
padded k f = f ++ replicate (k - length f) 0

module _ (F : Arithmetic) where
  infixl 70 ◌·◌
  open F use {◌·◌}

  -- c₀ + c₂·x + c₄·x² + .. and c₁ + c₃·x + ..
  unfoldable pub horner : ℕ → List ℕ → ℕ × ℕ
  horner x [] = (0, 0)
  horner x (c ∷ cs) = (c ⊕ x · (horner x cs).1, (horner x cs).0)

  -- the value at a point
  unfoldable pub evaluate : List ℕ → Point → ℕ
  evaluate [] P = 0
  evaluate (c ∷ cs) P = c ⊕ P.x · (horner P.x cs).0 ⊕ P.y · (horner P.x cs).1

  -- f + t·h, for h and f in this order
  unfoldable pub add_scaled : ℕ → List ℕ → List ℕ → List ℕ
  add_scaled t [] ds = ds
  add_scaled t (c ∷ cs) [] = (0 ⊕ t · c) ∷ add_scaled t cs []
  add_scaled t (c ∷ cs) (d ∷ ds) = (d ⊕ t · c) ∷ add_scaled t cs ds

  -- a, b, c₀, c₁, .. added to α·c, up to the length of c
  unfoldable pub shifted : ℕ → ℕ → ℕ → List ℕ → List ℕ
  shifted α a b [] = []
  shifted α a b (c ∷ cs) = (a ⊕ α · c) ∷ shifted α b c cs

  -- (X + α)·f, up to the length of f: X takes 1 to X, and every later monomial to the next but one
  unfoldable pub times_linear : ℕ → List ℕ → List ℕ
  times_linear α [] = []
  times_linear α (c ∷ cs) = α · c ∷ shifted α c 0 cs

  -- (X + α)·f
  unfoldable pub raised : ℕ → List ℕ → List ℕ
  raised α f = times_linear α (f ++ replicate (growth (length f)) 0)

-- L and U, both zero at the places so far, L the lighter, and the interpolant, which takes the symbols there
pub record State : Type 0 where
  pub low : List ℕ
  pub high : List ℕ
  pub word : List ℕ

-- a and b as L and U, the other way round where the test holds
abbrev pub held : Bool → List ℕ → List ℕ → List ℕ → State
held false a b f = record { low = a; high = b; word = f }
held true a b f = record { low = b; high = a; word = f }

-- L = 1, U = Y, and 0
abbrev pub start : State
start = record { low = 1 ∷ []; high = 0 ∷ 0 ∷ 1 ∷ []; word = [] }

module _ (F : Arithmetic) where
  infixl 70 ◌·◌
  open F use {◌·◌, inv}

  module _ (P : Point) where
    -- f with the multiple of g that makes its value at P v
    unfoldable pub corrected : ℕ → List ℕ → List ℕ → List ℕ
    corrected v g f = add_scaled F ((v ⊕ evaluate F f P) · inv (evaluate F g P)) g f

    -- U with the multiple of L that makes it zero at P
    unfoldable pub cancelled : List ℕ → List ℕ → List ℕ
    cancelled l u = add_scaled F (evaluate F u P · inv (evaluate F l P)) l u

    -- L is not zero at P: it is raised, U is cancelled, and the shorter of the two is the new L
    unfoldable pub stepped : ℕ → State → State
    stepped v s =
        let l = raised F P.x s.low in
        let u = cancelled s.low s.high in
        held (ltb (length u) (length l)) l u (corrected v s.low s.word)

    -- L is zero at P: U is raised
    unfoldable pub kept : ℕ → State → State
    kept v s = record { low = s.low; high = raised F P.x s.high; word = corrected v s.high s.word }

    -- one more place P, where the interpolant is to be v
    unfoldable pub step : ℕ → State → State
    step v s = cond (eqb (evaluate F s.low P) 0) (kept v s) (stepped v s)

  -- the state after the first n places
  unfoldable pub after : List Point → List ℕ → ℕ → State
  after points symbols zero = start
  after points symbols (suc n) = step (get_or points n (point 0 0)) (get_or symbols n 0) (after points symbols n)
