-- Test after test of the lengths, and then of what the lists hold.
use borrow.Author.Tests.{eq-eqb, ne_eqb, le-leb, lt-leb}
use Rattle.basics.proofs.Outcomes.{pass, refuse}
use Rattle.solving.specs.Tests.{room}
use Rattle.coder.proofs.relation.relation_tested.Goals as goal

pub returns-then-places-code : goal.returns-then-places-code
returns-then-places-code c = refuse _ (ne_eqb _ _ c.if-places-code.true)

pub returns-then-out-code : goal.returns-then-out-code
returns-then-out-code c = pass _ (eq-eqb _ _ c.if-places-code.false) (refuse _ (ne_eqb _ _ c.if-out-code.true))

pub returns-then-work-lt-ROOM : goal.returns-then-work-lt-ROOM
returns-then-work-lt-ROOM c = pass _ (eq-eqb _ _ c.if-places-code.false) (pass _ (eq-eqb _ _ c.if-out-code.false) (refuse _ (lt-leb room _ c.if-work-lt-ROOM.true)))

pub returns : goal.returns
returns c = pass _ (eq-eqb _ _ c.if-places-code.false) (pass _ (eq-eqb _ _ c.if-out-code.false) (pass _ (le-leb room _ c.if-work-lt-ROOM.false) c.relation_placed.ensures))
