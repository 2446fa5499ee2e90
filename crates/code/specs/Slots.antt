-- A number below 512 for each point of a curve, by which a point that stands twice is found in one pass.
use Rattle.std.specs.Prelude.{ℕ, ◌+◌, ◌*◌, cond, List, ltb, get_or}
use Rattle.field.specs.Field.{Arithmetic}
use Rattle.elliptic.specs.declared.Curve.{Curve}
use Rattle.elliptic.specs.declared.Point.{Point}
use Rattle.elliptic.specs.Curve.{point, opposite}

-- twice X, and one more where the Y is the greater of the two over that X: over one X a curve has a point and its opposite, and no third
unfoldable pub slot : Arithmetic → Curve → Point → ℕ
slot F C P = P.x * 2 + cond (ltb (opposite F C P).y P.y) 1 0

-- the point at index i of two coordinate lists, and its slot
abbrev pub listed : List ℕ → List ℕ → ℕ → Point
listed xs ys i = point (get_or xs i 0) (get_or ys i 0)

abbrev pub slot_at : Arithmetic → Curve → List ℕ → List ℕ → ℕ → ℕ
slot_at F C xs ys i = slot F C (listed xs ys i)
