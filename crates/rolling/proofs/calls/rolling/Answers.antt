-- The lengths are tested; then the step answers for the state in the bytes, and where it is done its state and its mean are stored.
use Rattle.std.proofs.Common.{rules}
use borrow.Author.Tests.{eq-eqb, ne_eqb}
use mir.Syntax.{w16}
use mir.ValLaws.{to_z-of_z}
use Rattle.basics.proofs.Outcomes.{pass, refuse, exit}
use Rattle.rolling.proofs.Steps.{call_stops, call_ends}
use Rattle.rolling.proofs.calls.rolling.Goals as goal

pub returns-then-state-ne64 : goal.returns-then-state-ne64
returns-then-state-ne64 c = refuse _ (ne_eqb _ _ c.if-state-ne64.true)

pub returns-then-out-ne1 : goal.returns-then-out-ne1
returns-then-out-ne1 c = pass _ (eq-eqb _ _ c.if-state-ne64.false) (refuse _ (ne_eqb _ _ c.if-out-ne1.true))

pub returns-in_err-stepped : goal.returns-in_err-stepped
returns-in_err-stepped c =
    let stepped = rw (c.load.ensures, to_z-of_z w16 c.args.mean c.ranges.mean) at c.in_err-stepped.ensures in
    exit _ _ c.from_residual.ensures.1 (call_stops _ c.args.hour c.args.mean _ (c.if-state-ne64.false, c.if-out-ne1.false) stepped)

pub returns : goal.returns
returns c =
    let stepped = rw (c.load.ensures, to_z-of_z w16 c.args.mean c.ranges.mean) at c.in_ok-stepped.ensures in
    rw (to_z-of_z w16 c.in_ok-stepped.stepped.mean (record { sfits = search rules }))
    (call_ends _ c.args.hour c.args.mean _ (c.if-state-ne64.false, c.if-out-ne1.false) stepped c.store.ensures)
