-- The tests up to number 12, and then what was solved for.
use mathlib.Core.Path.{sym, ◌∙◌}
use Rattle.basics.proofs.Lists.{copied}
use Rattle.basics.proofs.Outcomes.{accept_pair}
use Rattle.code.specs.Shown.{shown}
use Rattle.solving.proofs.Chains.{posed_go, enough}
use Rattle.coder.proofs.Prepared.{prepared, not_prepared}
use Rattle.coder.proofs.Results.{the_word}
use Rattle.coder.proofs.systematic_word.systematic_word_run.Goals as goal

pub returns-in_err-prepare_word : goal.returns-in_err-prepare_word
returns-in_err-prepare_word c =
    not_prepared (shown c.args.code.now) c.args.places.now c.args.symbols.now c.prepare_word.ensures _ _ c.from_residual.ensures.1 c.in_err-prepare_word.was

pub returns : goal.returns
returns c =
    let (passed, holds) = prepared (shown c.args.code.now) _ _ c.prepare_word.ensures c.in_ok-prepare_word.was in
    let there = enough _ _ _ passed c.args.code.now.accepted (c.requires.places_len.1 ∙ sym c.requires.places_len.0) in
    posed_go _ _ _ passed _
    (accept_pair
    (copied (c.prepare_word.auto.f ∙ c.requires.places_len.4) (c.copy.auto.out ∙ c.requires.places_len.2) c.copy.ensures ∙ the_word _ _ _ c.args.code.now.accepted there c.requires.places_len.0 holds)
    c.clear_room.ensures)
