-- The answer of the code test: test after test, the first that fails.
use Prim.Native.Nat.{ℕ}
use mathlib.Core.Bool.{Bool, true, false, not}
use mathlib.Core.List.{List}
use mathlib.Core.Path.{◌≡◌, refl, sym, ap, ◌∙◌}
use lib.Dec.{eqb}
use lib.ListN.{length}
use borrow.Author.Tests.{eqb-true}
use Rattle.basics.specs.declared.Refusal.TheVariants.{CurveCoefficient, Singular, PointCount, OffCurve, RepeatedPoint, Dimension}
use Rattle.basics.specs.Outcome.{Done, Refused, check, answer}
use Rattle.basics.proofs.Lists.{both}
use Rattle.field.specs.Galois.{IsField, galois, size}
use Rattle.field.proofs.Galois.{field_true}
use Rattle.elliptic.specs.declared.Curve.{Curve}
use Rattle.elliptic.specs.Curve.{singular as singular_curve, coefficients_below as below}
use Rattle.codewords.specs.Code.{Code, coefficients_below, smooth, right_count, all_on_curve, all_different, right_dimension, code_answer}
use Rattle.code.specs.Parts.{code_with}
use Rattle.code.specs.Points.{Judged, count_in, dimension_in, points_answer}
use Rattle.code.proofs.Repeats.{slots_differ}

module _ (code : Code) where
  pub singular : smooth code ≡ false → Refused Singular ≡ points_answer code
  unfolding points_answer check answer
  singular s = rw s

  pub wrong_count : smooth code ≡ true → right_count code ≡ false → Refused PointCount ≡ points_answer code
  unfolding points_answer check answer
  wrong_count s c = rw (s, c)

  pub off_curve : smooth code ≡ true → right_count code ≡ true → all_on_curve code ≡ false → Refused OffCurve ≡ points_answer code
  unfolding points_answer check answer
  off_curve s c o = rw (s, c, o)

  pub repeated : smooth code ≡ true → right_count code ≡ true → all_on_curve code ≡ true → all_different code ≡ false
      → Refused RepeatedPoint ≡ points_answer code
  unfolding points_answer check answer
  repeated s c o d = rw (s, c, o, d)

  pub points_done : smooth code ≡ true → right_count code ≡ true → all_on_curve code ≡ true → all_different code ≡ true → right_dimension code ≡ true
      → Done ≡ points_answer code
  unfolding points_answer check answer
  points_done s c o d k = rw (s, c, o, d, k)

  pub wrong_dimension : smooth code ≡ true → right_count code ≡ true → all_on_curve code ≡ true → all_different code ≡ true → right_dimension code ≡ false
      → Refused Dimension ≡ points_answer code
  unfolding points_answer check answer
  wrong_dimension s c o d k = rw (s, c, o, d, k)

  -- number 1 has passed
  pub wrong_coefficient : IsField code.field → coefficients_below code ≡ false → Refused CurveCoefficient ≡ code_answer code
  unfolding code_answer check answer
  wrong_coefficient f b = rw (field_true f, b)

  pub behind : IsField code.field → coefficients_below code ≡ true → points_answer code ≡ code_answer code
  unfolding code_answer points_answer check
  behind f b = rw (field_true f, b) refl

-- ---- what the tests of the code find is what the definitions ask

module _ (m : ℕ) (C : Curve) (k : ℕ) (xs ys : List ℕ) where
  abbrev code : Code
  code = code_with m C k xs ys

  pub is_smooth : {a b : Bool} → a ≡ singular_curve (galois m) C → a ≡ b → smooth code ≡ not b
  unfolding smooth
  is_smooth e h = ap not (sym e ∙ h)

  pub counts : {a b : Bool} → a ≡ count_in (length xs) (length ys) → a ≡ b → right_count code ≡ b
  unfolding right_count
  counts e h = sym e ∙ h

  pub as_many : right_count code ≡ true → length xs ≡ length ys
  unfolding right_count
  as_many h = eqb-true _ _ (both (eqb (length xs) (length ys)) _ h).0

  pub on_curve : {on apart b : Bool} → Judged m C xs ys on apart → on ≡ b → all_on_curve code ≡ b
  unfolding all_on_curve
  on_curve j h = sym j.points ∙ h

  -- of points on the curve, the slots tell whether they are different
  pub are_different : {on apart b : Bool} → IsField m → below (size m) C ≡ true → right_count code ≡ true → all_on_curve code ≡ true
      → Judged m C xs ys on apart → apart ≡ b → all_different code ≡ b
  unfolding all_different all_on_curve
  are_different f s r o j h = sym (j.slots ∙ slots_differ xs ys (as_many r) f C s o) ∙ h

  pub fits : {a b : Bool} → a ≡ dimension_in k (length xs) → a ≡ b → right_dimension code ≡ b
  unfolding right_dimension
  fits e h = sym e ∙ h
