-- The code test: what a code that passes it has, and what its answer says of an operation's outcome.
use Prim.{Unit, tt}
use Prim.Native.Nat.{◌<◌, ◌≤◌}
use mathlib.Core.Path.{◌≡◌, refl, ◌∙◌, ap}
use mathlib.Core.Bool.{Bool, true, false, not, ◌&&◌}
use mathlib.Core.List.{List, [], ◌∷◌}
use lib.Dec.{eqb, ltb, leb}
use lib.ListN.{length}
use borrow.Author.Tests.{eqb-true, eqb-false, leb-true, ltb-true, not-true, eq-eqb}
use Rattle.basics.specs.Lists.{all, different}
use Rattle.basics.specs.Outcome.{Done, Refused, Outcome, refused, accepted, counted, check, answer}
use Rattle.basics.specs.declared.Refusal.{Refusal}
use Rattle.basics.specs.declared.Refusal.TheVariants.{FieldNumber, CurveCoefficient, Singular, PointCount, OffCurve, RepeatedPoint, Dimension}
use Rattle.basics.proofs.Lists.{both_left, both_right, both_true}
use Rattle.basics.proofs.Outcomes.{passed}
use Rattle.field.specs.Field.{Field}
use Rattle.field.specs.Galois.{is_field, IsField}
use Rattle.field.proofs.Galois.{is_field_lem, galois_field}
use Rattle.elliptic.specs.declared.Point.{Point}
use Rattle.elliptic.specs.Curve.{same_point, in_field, on_curve, singular}
use Rattle.elliptic.proofs.Points.{On, Points, Differ, All, Distinct, Distinct.nil, Distinct.cons, all_map}
use Rattle.elliptic.specs.Curve.{coefficients_of}
use Rattle.codewords.specs.Code.{Code, arithmetic, q, n, points, coefficients_below, smooth, right_count, all_on_curve, all_different, right_dimension, check_code, code_answer}
use Rattle.codewords.proofs.Tests.{all_true}

-- every test passes
pub record Passed (code : Code) : Type 0 where
  pub field : is_field code.field ≡ true
  pub coefficients : coefficients_below code ≡ true
  pub smooth : smooth code ≡ true
  pub count : right_count code ≡ true
  pub on : all_on_curve code ≡ true
  pub distinct : all_different code ≡ true
  pub dimension : right_dimension code ≡ true

-- what they say
pub record Accepted (code : Code) : Type 0 where
  pub field : IsField code.field
  pub coefficients : All (λ g. g < q code) (coefficients_of code.curve)
  pub smooth : singular (arithmetic code) code.curve ≡ false
  pub lengths : length code.xs ≡ length code.ys
  pub n_most : n code ≤ 288
  pub different : Points (arithmetic code) code.curve (points code)
  pub k_least : 1 ≤ code.k
  pub k_most : code.k < n code

-- ---- the answer of the code test, and an operation's outcome

answer_done : (u : Outcome (Unit {0})) → answer u ≡ Done → u ≡ accepted tt
unfolding answer
answer_done (refused e) h = cc
answer_done (accepted tt) h = refl
answer_done (counted n m) h = cc

answer_refused : {e : Refusal} (u : Outcome (Unit {0})) → answer u ≡ Refused e → u ≡ refused e
unfolding answer
answer_refused (refused e) h = cc
answer_refused (accepted tt) h = cc
answer_refused (counted n m) h = cc

-- the outcome o, unless the test alone refuses
after : {M : Type 0} → Outcome (Unit {0}) → Outcome M → Outcome M
after (refused e) o = refused e
after (accepted tt) o = o
after (counted n m) o = o

after_check : {M : Type 0} (b : Bool) (e : Refusal) (u : Outcome (Unit {0})) (o : Outcome M) → after (check b e u) o ≡ check b e (after u o)
unfolding check after
after_check true e u o = refl
after_check false e u o = refl

module _ (code : Code) where
  abbrev tested : Outcome (Unit {0})
  tested = check_code code (accepted tt)

  after_code_lem : {M : Type 0} (o : Outcome M) → check_code code o ≡ after tested o
  unfolding after
  after_code_lem o = simp after_check

  -- an operation goes on as if the code test were not there
  pub check_done : code_answer code ≡ Done → {M : Type 0} (o : Outcome M) → check_code code o ≡ o
  unfolding code_answer after
  check_done h o = after_code_lem o ∙ ap (λ u. after u o) (answer_done tested h)

  -- an operation refuses as the code test does
  pub check_refused : {e : Refusal} → code_answer code ≡ Refused e → {M : Type 0} (o : Outcome M) → check_code code o ≡ refused e
  unfolding code_answer after
  check_refused h o = after_code_lem o ∙ ap (λ u. after u o) (answer_refused tested h)

  pub passed_done : code_answer code ≡ Done → Passed code
  unfolding code_answer
  passed_done h =
      let (field, h₁) = passed FieldNumber (answer_done tested h) in
      let (coefficients, h₂) = passed CurveCoefficient h₁ in
      let (smooth, h₃) = passed Singular h₂ in
      let (count, h₄) = passed PointCount h₃ in
      let (on, h₅) = passed OffCurve h₄ in
      let (distinct, h₆) = passed RepeatedPoint h₅ in
      let (dimension, h₇) = passed Dimension h₆ in
      record { field = field; coefficients = coefficients; smooth = smooth; count = count; on = on; distinct = distinct; dimension = dimension }

-- ---- what the tests say

points_distinct : (J : List Point) → different same_point J ≡ true → Distinct J
points_distinct [] h = nil
points_distinct (P ∷ J) h =
    cons
    (all_map (λ Q e. differ Q (not-true _ e)) (all_true (λ Q. not (same_point P Q)) J (both_left _ (different same_point J) h)))
    (points_distinct J (both_right (all (λ Q. not (same_point P Q)) J) _ h))
  where
    differ : (Q : Point) → same_point P Q ≡ false → Differ P Q
    differ Q e x y = let z = both_true (eqb P.x Q.x) (eqb P.y Q.y) (eq-eqb _ _ x) (eq-eqb _ _ y) in absurd (eqb-false 0 0 (rw z at e) refl)

module _ (code : Code) where
  point_on : (P : Point) → (in_field (arithmetic code) P && on_curve (arithmetic code) code.curve P) ≡ true → On (arithmetic code) code.curve P
  unfolding on_curve
  point_on P h =
      let inside = both_left (in_field (arithmetic code) P) _ h in
      record {
        x_lt = ltb-true _ _ (both_left (ltb P.x (q code)) _ inside);
        y_lt = ltb-true _ _ (both_right (ltb P.x (q code)) _ inside);
        eqn = eqb-true _ _ (both_right (in_field (arithmetic code) P) _ h);
      }

  pub accepted_if : Passed code → Accepted code
  unfolding coefficients_below smooth right_count all_on_curve all_different right_dimension
  accepted_if t =
      let range = both_right (eqb (length code.xs) (length code.ys)) _ t.count in
      record {
        field = is_field_lem code.field t.field;
        coefficients = all_map (λ g h. ltb-true g _ h) (all_true (λ g. ltb g (q code)) (coefficients_of code.curve) t.coefficients);
        smooth = not-true _ t.smooth;
        lengths = eqb-true _ _ (both_left (eqb (length code.xs) (length code.ys)) _ t.count);
        n_most = leb-true _ 288 (both_right (leb 2 (n code)) _ range);
        different = record {
          on = all_map point_on (all_true (λ P. in_field (arithmetic code) P && on_curve (arithmetic code) code.curve P) (points code) t.on);
          distinct = points_distinct (points code) t.distinct;
        };
        k_least = leb-true 1 _ (both_left (leb 1 code.k) _ t.dimension);
        k_most = ltb-true _ _ (both_right (leb 1 code.k) _ t.dimension);
      }

  pub accepted_done : code_answer code ≡ Done → Accepted code
  accepted_done h = accepted_if (passed_done code h)

  -- the laws of its field
  pub laws : Accepted code → Field (arithmetic code)
  laws a = galois_field a.field
