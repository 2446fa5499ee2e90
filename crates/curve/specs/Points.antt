-- The operation Points: its answer, and what it leaves in the two buffers.
use Rattle.std.specs.Prelude.{ℕ, not, ◌&&◌, List, map, eqb, length}
use Rattle.basics.specs.Lists.{written}
use Rattle.basics.specs.Outcome.{Outcome, counted, check}
use Rattle.basics.specs.declared.Refusal.TheVariants.{FieldNumber, CurveCoefficient, Singular, Length}
use Rattle.field.specs.Galois.{is_field, size, galois}
use Rattle.elliptic.specs.declared.Curve.{Curve}
use Rattle.elliptic.specs.declared.Point.{Point}
use Rattle.elliptic.specs.Curve.{coefficients_below, singular, affine_points}

-- the length of each buffer: no curve has more points (`bound` of the crate point_count)
abbrev pub room : ℕ
room = 288

-- points at the front of xs and ys, with their number
abbrev pub listing : List Point → List ℕ → List ℕ → Outcome (List ℕ × List ℕ)
listing points xs ys = counted (length points) (written (map (λ P. P.x) points) xs, written (map (λ P. P.y) points) ys)

-- all affine points by X, then Y
unfoldable pub points_outcome : ℕ → Curve → List ℕ → List ℕ → Outcome (List ℕ × List ℕ)
points_outcome m C xs ys =
    check (is_field m) FieldNumber (check (coefficients_below (size m) C) CurveCoefficient
    (check (not (singular (galois m) C)) Singular (check (eqb (length xs) room && eqb (length ys) room) Length
    (listing (affine_points (galois m) C) xs ys))))
