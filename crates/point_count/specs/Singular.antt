-- Where a curve can be singular.
use Rattle.std.specs.Prelude.{ℕ}
use Rattle.field.specs.Sum.{◌⊕◌}
use Rattle.field.specs.Field.{Arithmetic}
use Rattle.elliptic.specs.declared.Curve.{Curve}
use Rattle.elliptic.specs.declared.Point.{Point}
use Rattle.elliptic.specs.Curve.{point}

module _ (F : Arithmetic) (C : Curve) where
  infixl 70 ◌·◌
  open F use {◌·◌, inv}
  open C use {g1, g3, g4}

  -- g1·X + g3 = 0 and g1·Y + X² + g4 = 0, solved where g1 is not 0
  abbrev pub candidate_x : ℕ
  candidate_x = g3 · inv g1

  unfoldable pub candidate : Point
  candidate = point candidate_x ((candidate_x · candidate_x ⊕ g4) · inv g1)
