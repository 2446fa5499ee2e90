-- Test after test, and then the callee lists the points, for which there is room.
use mathlib.Core.Path.{refl, sym, ap, ◌∙◌}
use mathlib.Core.Bool.{not}
use borrow.Author.Tests.{eq-eqb, ne_eqb}
use Rattle.basics.proofs.Outcomes.{pass, refuse, exit}
use Rattle.field.proofs.Galois.{field_true}
use Rattle.point_count.proofs.Bound.{bound}
use Rattle.curve.specs.Points.{points_outcome}
use Rattle.curve.proofs.Listing.{listed_meets}
use Rattle.curve.proofs.points.Goals as goal

pub returns-in_err-test_number : goal.returns-in_err-test_number
unfolding points_outcome
returns-in_err-test_number c =
    let no = c.in_err-test_number.ensures.refused in
    exit _ _ c.from_residual.ensures.1 (rw no.0 (refuse _ no.1))

pub returns-then-not-coefficients_below : goal.returns-then-not-coefficients_below
unfolding points_outcome
returns-then-not-coefficients_below c =
    pass _ (field_true c.in_ok-test_number.ensures.found) (refuse _ (sym c.coefficients_below.ensures ∙ c.if-not-coefficients_below.true))

pub returns-then-is_singular : goal.returns-then-is_singular
unfolding points_outcome
returns-then-is_singular c =
    pass _ (field_true c.in_ok-test_number.ensures.found) (pass _ (sym c.coefficients_below.ensures ∙ c.if-not-coefficients_below.false)
    (refuse _ (ap not (rw c.of-field.ensures at (sym c.is_singular.ensures ∙ c.if-is_singular.true)))))

pub returns-then-xs-ne-ROOM : goal.returns-then-xs-ne-ROOM
unfolding points_outcome
returns-then-xs-ne-ROOM c =
    pass _ (field_true c.in_ok-test_number.ensures.found) (pass _ (sym c.coefficients_below.ensures ∙ c.if-not-coefficients_below.false)
    (pass _ (ap not (rw c.of-field.ensures at (sym c.is_singular.ensures ∙ c.if-is_singular.false))) (refuse _ (simp (ne_eqb _ _ c.if-xs-ne-ROOM.true)))))

pub returns-then-ys-ne-ROOM : goal.returns-then-ys-ne-ROOM
unfolding points_outcome
returns-then-ys-ne-ROOM c =
    pass _ (field_true c.in_ok-test_number.ensures.found) (pass _ (sym c.coefficients_below.ensures ∙ c.if-not-coefficients_below.false)
    (pass _ (ap not (rw c.of-field.ensures at (sym c.is_singular.ensures ∙ c.if-is_singular.false)))
    (refuse _ (simp (eq-eqb _ _ c.if-xs-ne-ROOM.false, ne_eqb _ _ c.if-ys-ne-ROOM.true)))))

pub returns : goal.returns
unfolding points_outcome
returns c =
    let field = c.in_ok-test_number.ensures.found in
    let below = sym c.coefficients_below.ensures ∙ c.if-not-coefficients_below.false in
    let smooth = rw c.of-field.ensures at (sym c.is_singular.ensures ∙ c.if-is_singular.false) in
    pass _ (field_true field) (pass _ below
    (pass _ (ap not smooth)
    (pass _ (rw (eq-eqb _ _ c.if-xs-ne-ROOM.false, eq-eqb _ _ c.if-ys-ne-ROOM.false))
    (listed_meets (bound _ _ field below smooth) (rw c.of-field.ensures at c.fill_points.ensures)))))
