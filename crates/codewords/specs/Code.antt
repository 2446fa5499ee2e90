-- Codes, and the code test that every operation but Points and Means begins with.
use Rattle.std.specs.Prelude.{ℕ, Bool, not, ◌&&◌, List, [], ◌∷◌, eqb, ltb, leb, length}
use Prim.{Unit, tt}
use Rattle.basics.specs.Lists.{all, different}
use Rattle.basics.specs.Outcome.{Answer, Outcome, accepted, check, answer}
use Rattle.basics.specs.declared.Refusal.TheVariants.{FieldNumber, CurveCoefficient, Singular, PointCount, OffCurve, RepeatedPoint, Dimension}
use Rattle.field.specs.Field.{Arithmetic}
use Rattle.field.specs.Galois.{is_field, galois}
use Rattle.elliptic.specs.declared.Curve.{Curve}
use Rattle.elliptic.specs.declared.Point.{Point}
use Rattle.elliptic.specs.Curve as curves
use Rattle.elliptic.specs.Curve.{point, same_point, in_field, on_curve, singular}
use Rattle.codewords.specs.declared.Parameters.{Parameters}

-- a code: a field by its number, a curve, a list of points by two coordinate lists, and a dimension
pub record Code : Type 0 where
  pub field : ℕ
  pub curve : Curve
  pub xs : List ℕ
  pub ys : List ℕ
  pub k : ℕ

-- the code that an operation is given
abbrev pub code_of : Parameters → List ℕ → List ℕ → Code
code_of p xs ys = record { field = p.field; curve = p.curve; xs = xs; ys = ys; k = p.k }

-- the points with these coordinates, as far as both lists go
unfoldable pub points_at : List ℕ → List ℕ → List Point
points_at [] ys = []
points_at (x ∷ xs) [] = []
points_at (x ∷ xs) (y ∷ ys) = point x y ∷ points_at xs ys

module _ (code : Code) where
  -- the code's field, and q
  abbrev pub arithmetic : Arithmetic
  arithmetic = galois code.field

  abbrev pub q : ℕ
  q = arithmetic.q

  -- n and the points
  abbrev pub n : ℕ
  n = length code.xs

  abbrev pub points : List Point
  points = points_at code.xs code.ys

  -- the tests, each true where the code passes
  unfoldable pub coefficients_below : Bool
  coefficients_below = curves.coefficients_below q code.curve

  unfoldable pub smooth : Bool
  smooth = not (singular arithmetic code.curve)

  unfoldable pub right_count : Bool
  right_count = eqb (length code.xs) (length code.ys) && (leb 2 n && leb n 288)

  unfoldable pub all_on_curve : Bool
  all_on_curve = all (λ P. in_field arithmetic P && on_curve arithmetic code.curve P) points

  unfoldable pub all_different : Bool
  all_different = different same_point points

  unfoldable pub right_dimension : Bool
  right_dimension = leb 1 code.k && ltb code.k n

  -- numbers 1 to 7 in their order, and then what the operation itself makes of its call
  abbrev pub check_code : {M : Type 0} → Outcome M → Outcome M
  check_code o =
      check (is_field code.field) FieldNumber
      (check coefficients_below CurveCoefficient
      (check smooth Singular
      (check right_count PointCount
      (check all_on_curve OffCurve
      (check all_different RepeatedPoint
      (check right_dimension Dimension o))))))

  -- the answer of the code test alone
  unfoldable pub code_answer : Answer
  code_answer = answer (check_code {M = Unit {0}} (accepted tt))
