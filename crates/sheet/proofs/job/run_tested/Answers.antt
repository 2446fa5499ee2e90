-- Test after test, in the order of their numbers.
use mathlib.Core.Path.{sym, ◌∙◌}
use borrow.Author.Tests.{eq-eqb, ne_eqb}
use Rattle.codewords.specs.Code.{code_of}
use Rattle.codewords.proofs.Accepted.{accepted_done}
use Rattle.solving.proofs.Chains.{places_passed}
use Rattle.sheet.proofs.Stops.{passes, stops, exit_ran}
use Rattle.sheet.proofs.Jobs.{places_stop, symbols_as, after_lengths, after_places}
use Rattle.sheet.proofs.job.run_tested.Goals as goal

pub returns-then-places-p : goal.returns-then-places-p
returns-then-places-p c = stops _ (ne_eqb _ _ c.if-places-p.true)

pub returns-then-message-p : goal.returns-then-message-p
returns-then-message-p c = passes _ (eq-eqb _ _ c.if-places-p.false) (stops _ (ne_eqb _ _ c.if-message-p.true))

pub test_places-requires : goal.test_places-requires
test_places-requires c = (accepted_done _ c.requires.ys_value).n_most

pub returns-in_err-test_places : goal.returns-in_err-test_places
returns-in_err-test_places c =
    after_lengths _ _ _ c.if-places-p.false c.if-message-p.false (exit_ran _ c.from_residual.ensures.1 (places_stop (code_of c.args.p c.args.xs.now c.args.ys.now) _ _ c.in_err-test_places.ensures))

pub size-requires : goal.size-requires
size-requires c = (accepted_done _ c.requires.ys_value).field

pub returns-then-not-symbols_below : goal.returns-then-not-symbols_below
returns-then-not-symbols_below c =
    after_places _ _ _ c.if-places-p.false c.if-message-p.false c.in_ok-test_places.ensures (stops _ (symbols_as _ _ c.size.ensures c.symbols_below.ensures ∙ c.if-not-symbols_below.true))

pub solve_message-requires-clause-solvable : goal.solve_message-requires-clause-solvable
solve_message-requires-clause-solvable c =
    let t = places_passed (code_of c.args.p c.args.xs.now c.args.ys.now) _ (sym c.in_ok-test_places.ensures) in
    record {
      done = c.requires.ys_value;
      places_many = c.if-places-p.false;
      symbols_many = c.if-message-p.false;
      are_all_places = t.0;
      differ = t.1;
      are_symbols = symbols_as _ _ c.size.ensures c.symbols_below.ensures ∙ c.if-not-symbols_below.false;
    }

pub returns : goal.returns
returns c =
    after_places _ _ _ c.if-places-p.false c.if-message-p.false c.in_ok-test_places.ensures (passes _ (symbols_as _ _ c.size.ensures c.symbols_below.ensures ∙ c.if-not-symbols_below.false) c.solve_message.ensures)
