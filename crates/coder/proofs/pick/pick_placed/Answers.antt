-- The places are tested, and then Pick has different places.
use mathlib.Core.Path.{sym, ap, ◌∙◌}
use Rattle.basics.specs.Outcome.{answer_of}
use Rattle.basics.proofs.Outcomes.{exit}
use Rattle.code.specs.Shown.{shown}
use Rattle.codewords.proofs.Accepted.{accepted_done}
use Rattle.solving.proofs.Chains.{places_go, places_refused, are_placed}
use Rattle.coder.proofs.pick.pick_placed.Goals as goal

pub test_places-requires : goal.test_places-requires
test_places-requires c = (accepted_done _ c.args.code.now.accepted).n_most

pub returns-in_err-test_places : goal.returns-in_err-test_places
returns-in_err-test_places c =
    exit _ _ c.from_residual.ensures.1 (places_refused (shown c.args.code.now) _ _ (sym (ap answer_of c.in_err-test_places.was) ∙ c.test_places.ensures))

pub pick_run-requires : goal.pick_run-requires
pick_run-requires c =
    let placed = are_placed _ _ (sym c.test_places.ensures ∙ ap answer_of c.in_ok-test_places.was) c.args.code.now.accepted in
    record { placed = (placed, c.requires.out_len.0, c.requires.out_len.1) }

pub returns : goal.returns
returns c = places_go _ _ (sym c.test_places.ensures ∙ ap answer_of c.in_ok-test_places.was) _ c.pick_run.ensures
