-- Test after test, and then the callee fills the buffer.
use borrow.Author.Tests.{eq-eqb, ne_eqb}
use Rattle.basics.proofs.Outcomes.{pass, refuse, accept, exit}
use Rattle.field.proofs.Galois.{field_true}
use Rattle.field.proofs.products.Goals as goal

pub returns-in_err-test_number : goal.returns-in_err-test_number
returns-in_err-test_number c =
    let no = c.in_err-test_number.ensures.refused in
    exit _ _ c.from_residual.ensures.1 (rw no.0 (refuse _ no.1))

pub returns-then-a-out : goal.returns-then-a-out
returns-then-a-out c = pass _ (field_true c.in_ok-test_number.ensures.found) (refuse _ (ne_eqb _ _ c.if-a-out.true))

pub returns-then-b-out : goal.returns-then-b-out
returns-then-b-out c =
    pass _ (field_true c.in_ok-test_number.ensures.found) (pass _ (eq-eqb _ _ c.if-a-out.false) (refuse _ (ne_eqb _ _ c.if-b-out.true)))

pub returns : goal.returns
returns c =
    pass _ (field_true c.in_ok-test_number.ensures.found)
    (pass _ (eq-eqb _ _ c.if-a-out.false) (pass _ (eq-eqb _ _ c.if-b-out.false)
    (accept (rw (← c.of.ensures) c.fill_products.ensures))))
