-- Test after test of the lengths, and then the later ones.
use borrow.Author.Tests.{eq-eqb, ne_eqb, le-leb, lt-leb}
use Rattle.basics.proofs.Outcomes.{pass, refuse}
use Rattle.solving.specs.Tests.{room}
use Rattle.best.proofs.operation.best_tested.Goals as goal

pub returns-then-received-n : goal.returns-then-received-n
returns-then-received-n c = refuse _ (ne_eqb _ _ c.if-received-n.true)

pub returns-then-trusts-n : goal.returns-then-trusts-n
returns-then-trusts-n c = pass _ (eq-eqb _ _ c.if-received-n.false) (refuse _ (ne_eqb _ _ c.if-trusts-n.true))

pub returns-then-out-n : goal.returns-then-out-n
returns-then-out-n c =
    pass _ (eq-eqb _ _ c.if-received-n.false) (pass _ (eq-eqb _ _ c.if-trusts-n.false) (refuse _ (ne_eqb _ _ c.if-out-n.true)))

pub returns-then-figures-ne3 : goal.returns-then-figures-ne3
returns-then-figures-ne3 c =
    pass _ (eq-eqb _ _ c.if-received-n.false)
    (pass _ (eq-eqb _ _ c.if-trusts-n.false) (pass _ (eq-eqb _ _ c.if-out-n.false) (refuse _ (ne_eqb _ _ c.if-figures-ne3.true))))

pub returns-then-work-lt-ROOM : goal.returns-then-work-lt-ROOM
returns-then-work-lt-ROOM c =
    pass _ (eq-eqb _ _ c.if-received-n.false)
    (pass _ (eq-eqb _ _ c.if-trusts-n.false)
    (pass _ (eq-eqb _ _ c.if-out-n.false) (pass _ (eq-eqb _ _ c.if-figures-ne3.false) (refuse _ (lt-leb room _ c.if-work-lt-ROOM.true)))))

pub returns : goal.returns
returns c =
    pass _ (eq-eqb _ _ c.if-received-n.false)
    (pass _ (eq-eqb _ _ c.if-trusts-n.false)
    (pass _ (eq-eqb _ _ c.if-out-n.false)
    (pass _ (eq-eqb _ _ c.if-figures-ne3.false) (pass _ (le-leb room _ c.if-work-lt-ROOM.false) c.best_sized.ensures))))
