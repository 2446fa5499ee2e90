-- The tests up to number 12, and then what was solved for.
use mathlib.Core.Path.{sym, ◌∙◌}
use Rattle.basics.proofs.Outcomes.{accept_pair}
use Rattle.code.specs.Shown.{shown}
use Rattle.solving.proofs.Chains.{posed_go, enough}
use Rattle.coder.proofs.Prepared.{prepared, not_prepared}
use Rattle.coder.proofs.Results.{the_function}
use Rattle.coder.proofs.systematic_function.systematic_function_run.Goals as goal

pub returns-in_err-prepare : goal.returns-in_err-prepare
returns-in_err-prepare c =
    not_prepared (shown c.args.code.now) c.args.places.now c.args.symbols.now c.prepare.ensures _ _ c.from_residual.ensures.1 c.in_err-prepare.was

pub returns : goal.returns
returns c =
    let (passed, holds) = prepared (shown c.args.code.now) _ _ c.prepare.ensures c.in_ok-prepare.was in
    let there = enough _ _ _ passed c.args.code.now.accepted (c.requires.places_len.1 ∙ sym c.requires.places_len.0) in
    posed_go _ _ _ passed _
    (accept_pair (c.write_function.ensures ∙ the_function _ _ _ c.args.code.now.accepted there c.requires.places_len.0 c.requires.places_len.2 holds) c.clear_room.ensures)
