-- Test after test of the lengths and of the symbols, and then the last one.
use mathlib.Core.Path.{sym, ◌∙◌, ap}
use borrow.Author.Tests.{eq-eqb, ne_eqb, le-leb, lt-leb}
use Rattle.basics.specs.Lists.{all}
use Rattle.basics.proofs.Outcomes.{pass, refuse}
use Rattle.code.specs.Lists.{is_below}
use Rattle.codewords.specs.Codewords.{symbols}
use Rattle.solving.specs.Tests.{room}
use Rattle.correction.proofs.operation.correct_tested.Goals as goal

pub returns-then-r-code : goal.returns-then-r-code
returns-then-r-code c = refuse _ (ne_eqb _ _ c.if-r-code.true)

pub returns-then-out-code : goal.returns-then-out-code
returns-then-out-code c = pass _ (eq-eqb _ _ c.if-r-code.false) (refuse _ (ne_eqb _ _ c.if-out-code.true))

pub returns-then-work-lt-ROOM : goal.returns-then-work-lt-ROOM
returns-then-work-lt-ROOM c = pass _ (eq-eqb _ _ c.if-r-code.false) (pass _ (eq-eqb _ _ c.if-out-code.false) (refuse _ (lt-leb room _ c.if-work-lt-ROOM.true)))

pub returns-then-not-all_below : goal.returns-then-not-all_below
unfolding symbols
returns-then-not-all_below c =
    let says = ap (λ q. all (is_below q) c.args.r.now) (sym c.size.ensures) ∙ sym c.all_below.ensures in
    pass _ (eq-eqb _ _ c.if-r-code.false)
    (pass _ (eq-eqb _ _ c.if-out-code.false) (pass _ (le-leb room _ c.if-work-lt-ROOM.false) (refuse _ (says ∙ c.if-not-all_below.true))))

pub correct_run-requires : goal.correct_run-requires
unfolding symbols
correct_run-requires c =
    let says = ap (λ q. all (is_below q) c.args.r.now) (sym c.size.ensures) ∙ sym c.all_below.ensures in
    record { r_len = (c.if-r-code.false, c.if-out-code.false, c.if-work-lt-ROOM.false, says ∙ c.if-not-all_below.false) }

pub returns : goal.returns
unfolding symbols
returns c =
    let says = ap (λ q. all (is_below q) c.args.r.now) (sym c.size.ensures) ∙ sym c.all_below.ensures in
    pass _ (eq-eqb _ _ c.if-r-code.false)
    (pass _ (eq-eqb _ _ c.if-out-code.false)
    (pass _ (le-leb room _ c.if-work-lt-ROOM.false) (pass _ (says ∙ c.if-not-all_below.false) c.correct_run.ensures)))
