-- What the code test asks of the points and the dimension.
use Prim.{Unit, tt}
use Rattle.std.specs.Prelude.{ℕ, Bool, ◌&&◌, List, ◌≡◌, eqb, leb, ltb, length}
use Rattle.basics.specs.Lists.{all, different, table}
use Rattle.basics.specs.Outcome.{Answer, accepted, check, answer}
use Rattle.basics.specs.declared.Refusal.TheVariants.{Singular, PointCount, OffCurve, RepeatedPoint, Dimension}
use Rattle.field.specs.Field.{Arithmetic}
use Rattle.field.specs.Galois.{galois}
use Rattle.elliptic.specs.declared.Curve.{Curve}
use Rattle.elliptic.specs.declared.Point.{Point}
use Rattle.elliptic.specs.Curve.{in_field, on_curve}
use Rattle.codewords.specs.Code.{Code, points_at, smooth, right_count, all_on_curve, all_different, right_dimension}
use Rattle.code.specs.Slots.{slot_at}

-- the coordinates are in the field, and the point lies on the curve
abbrev pub is_point : Arithmetic → Curve → Point → Bool
is_point F C P = in_field F P && on_curve F C P

-- what one pass over the points finds: whether all are points, and whether no slot was met twice
pub record Judged (m : ℕ) (C : Curve) (xs ys : List ℕ) (on apart : Bool) : Type 0 where
  pub points : on ≡ all (is_point (galois m) C) (points_at xs ys)
  pub slots : apart ≡ different eqb (table (slot_at (galois m) C xs ys) (length xs))

-- as many X as Y, 2 to 288
abbrev pub count_in : ℕ → ℕ → Bool
count_in n n' = eqb n n' && (leb 2 n && leb n 288)

abbrev pub dimension_in : ℕ → ℕ → Bool
dimension_in k n = leb 1 k && ltb k n

-- the answer of the code test from number 3 on
unfoldable pub points_answer : Code → Answer
points_answer code =
    answer {M = Unit {0}}
    (check (smooth code) Singular
    (check (right_count code) PointCount
    (check (all_on_curve code) OffCurve
    (check (all_different code) RepeatedPoint
    (check (right_dimension code) Dimension
    (accepted tt))))))
