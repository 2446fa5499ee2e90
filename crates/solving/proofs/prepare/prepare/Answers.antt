-- The tests of the lists, and then what is solved for.
use mathlib.Core.Path.{sym, ap, ◌∙◌}
use Rattle.basics.specs.Outcome.{answer_of}
use Rattle.code.specs.Shown.{shown}
use Rattle.codewords.proofs.Accepted.{accepted_done}
use Rattle.solving.proofs.Chains.{posed, prepared_not, prepared_done, prepared_refused}
use Rattle.solving.proofs.prepare.prepare.Goals as goal

pub test_lists-requires : goal.test_lists-requires
test_lists-requires c = let a = accepted_done _ c.args.code.now.accepted in (a.field, a.n_most)

pub returns-in_err-test_lists : goal.returns-in_err-test_lists
returns-in_err-test_lists c =
    prepared_refused (shown c.args.code.now) _ _ _ c.from_residual.ensures.1 (sym (ap answer_of c.in_err-test_lists.was) ∙ c.test_lists.ensures _ _)

pub solve-requires : goal.solve-requires
solve-requires c =
    record { posed = (posed _ _ _ (sym (c.test_lists.ensures _ _) ∙ ap answer_of c.in_ok-test_lists.was) c.args.code.now.accepted c.requires.symbols_len.0, c.requires.symbols_len.1) }

pub returns-then-not-solve : goal.returns-then-not-solve
returns-then-not-solve c = prepared_not _ _ _ (sym (c.test_lists.ensures _ _) ∙ ap answer_of c.in_ok-test_lists.was) c.solve.ensures c.if-not-solve.true

pub returns : goal.returns
returns c = prepared_done _ _ _ (sym (c.test_lists.ensures _ _) ∙ ap answer_of c.in_ok-test_lists.was) c.solve.ensures c.if-not-solve.false
