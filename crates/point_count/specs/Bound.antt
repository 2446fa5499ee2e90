-- How many affine points a curve can have.
use Rattle.std.specs.Prelude.{ℕ, ◌≤◌, ◌≡◌, true, false, length}
use Rattle.field.specs.Galois.{IsField, size, galois}
use Rattle.elliptic.specs.declared.Curve.{Curve}
use Rattle.elliptic.specs.Curve.{coefficients_below, singular, affine_points}

abbrev pub most : ℕ
most = 288

-- no curve that Points takes has more
abbrev pub Bound : Type 0
Bound = (m : ℕ) (C : Curve) → IsField m → coefficients_below (size m) C ≡ true → singular (galois m) C ≡ false → length (affine_points (galois m) C) ≤ most
