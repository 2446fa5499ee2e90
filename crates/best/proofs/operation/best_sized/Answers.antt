-- The tests of the symbols and of the budget, and then the word and its figures.
use mathlib.Core.Path.{◌∙◌}
use Rattle.basics.proofs.Outcomes.{pass, refuse}
use Rattle.code.specs.Shown.{shown}
use Rattle.best.proofs.Testing.{symbols_tested, low_budget, high_budget, in_budget, accept_three}
use Rattle.best.proofs.operation.best_sized.Goals.{then-budget-lt1-via-then-budget-lt1, then-budget-lt1-via-else-budget-lt1+then-budget-gt-MOST_TRIES}
use Rattle.best.proofs.operation.best_sized.Goals as goal

pub returns-then-not-all_below : goal.returns-then-not-all_below
returns-then-not-all_below c = refuse _ (symbols_tested (shown c.args.code.now) c.args.received.now c.size.ensures c.all_below.ensures ∙ c.if-not-all_below.true)

pub returns-then-budget-lt1 : goal.returns-then-budget-lt1
returns-then-budget-lt1 c =
    pass _ (symbols_tested (shown c.args.code.now) c.args.received.now c.size.ensures c.all_below.ensures ∙ c.if-not-all_below.false)
    (refuse _ (elim c.then-budget-lt1.branch [
      | then-budget-lt1-via-then-budget-lt1 w ↦ low_budget c.args.budget w.if-budget-lt1.true
      | then-budget-lt1-via-else-budget-lt1+then-budget-gt-MOST_TRIES w ↦ high_budget c.args.budget w.if-budget-lt1.false w.if-budget-gt-MOST_TRIES.true
    ]))

pub best_run-requires : goal.best_run-requires
best_run-requires c =
    let are_symbols = symbols_tested (shown c.args.code.now) c.args.received.now c.size.ensures c.all_below.ensures ∙ c.if-not-all_below.false in
    record {
      given = (
        record { done = c.args.code.now.accepted; small = are_symbols; size = c.requires.received_len.0; trusted = c.requires.received_len.1 },
        c.requires.received_len.2,
        c.requires.received_len.3,
        c.requires.received_len.4,
        c.if-budget-lt1.false,
        c.if-budget-gt-MOST_TRIES.false,
      );
    }

pub returns : goal.returns
returns c =
    pass _ (symbols_tested (shown c.args.code.now) c.args.received.now c.size.ensures c.all_below.ensures ∙ c.if-not-all_below.false)
    (pass _ (in_budget c.args.budget c.if-budget-lt1.false c.if-budget-gt-MOST_TRIES.false) (accept_three c.best_run.ensures.0 c.best_run.ensures.1 c.best_run.ensures.2))
