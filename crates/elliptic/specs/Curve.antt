-- Curves and their points. F is the arithmetic of a field; nothing here supposes that its laws hold, or that coordinates are below q.
use Rattle.std.specs.Prelude.{ℕ, zero, suc, Bool, ◌&&◌, List, [], ◌∷◌, ◌++◌, eqb, ltb}
use Rattle.basics.specs.Lists.{all, any, filter, table}
use Rattle.field.specs.Sum.{◌⊕◌}
use Rattle.field.specs.Field.{Arithmetic}
pub use Rattle.elliptic.specs.declared.Curve.{Curve}
pub use Rattle.elliptic.specs.declared.Point.{Point}

abbrev pub point : ℕ → ℕ → Point
point x y = record { x = x; y = y }

-- the five coefficients in document 01's order, and whether all are below q
abbrev pub coefficients_of : Curve → List ℕ
coefficients_of C = C.g1 ∷ C.g2 ∷ C.g3 ∷ C.g4 ∷ C.g6 ∷ []

abbrev pub coefficients_below : ℕ → Curve → Bool
coefficients_below q C = all (λ g. ltb g q) (coefficients_of C)

-- two points are the same
abbrev pub same_point : Point → Point → Bool
same_point P Q = eqb P.x Q.x && eqb P.y Q.y

-- every (X, Y) with coordinates below q, by X, then Y: those with X below n
abbrev pub columns : ℕ → ℕ → List Point
columns q zero = []
columns q (suc n) = columns q n ++ table (point n) q

module _ (F : Arithmetic) where
  infixl 70 ◌·◌
  open F use {q, ◌·◌}

  -- both coordinates are elements of the field
  abbrev pub in_field : Point → Bool
  in_field P = ltb P.x q && ltb P.y q

  module _ (C : Curve) where
    open C use {g1, g2, g3, g4, g6}

    -- the two sides of the curve's equation
    abbrev pub left : ℕ → ℕ → ℕ
    left x y = y · y ⊕ g1 · (x · y) ⊕ g3 · y

    abbrev pub right : ℕ → ℕ
    right x = x · (x · x) ⊕ g2 · (x · x) ⊕ g4 · x ⊕ g6

    unfoldable pub on_curve : Point → Bool
    on_curve P = eqb (left P.x P.y) (right P.x)

    -- on the curve with g1·X + g3 = 0 and g1·Y + X² + g4 = 0
    unfoldable pub singular_at : Point → Bool
    singular_at P = on_curve P && (eqb (g1 · P.x ⊕ g3) 0 && eqb (g1 · P.y ⊕ P.x · P.x ⊕ g4) 0)

    -- singular: some (X, Y) over the field is so
    unfoldable pub singular : Bool
    singular = any singular_at (columns q q)

    -- the opposite of (a, b) is (a, b + g1·a + g3); it can be the point itself
    unfoldable pub opposite : Point → Point
    opposite P = point P.x (P.y ⊕ g1 · P.x ⊕ g3)

    -- what Points gives: all affine points by X, then Y
    unfoldable pub affine_points : List Point
    affine_points = filter on_curve (columns q q)
