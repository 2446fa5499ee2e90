-- The tests up to number 12, and then what was solved for, if it agrees.
use mathlib.Core.Path.{◌∙◌}
use Rattle.basics.proofs.Lists.{copied}
use Rattle.basics.proofs.Outcomes.{pass, refuse, accept_pair}
use Rattle.code.specs.Shown.{shown}
use Rattle.solving.proofs.Chains.{posed_go, solvable, enough}
use Rattle.solving.proofs.Link.{all_in_lem}
use Rattle.coder.proofs.Prepared.{prepared, not_prepared}
use Rattle.coder.proofs.Results.{agreed_by, rebuilt}
use Rattle.coder.proofs.rebuild.rebuild_run.Goals as goal

pub returns-in_err-prepare_word : goal.returns-in_err-prepare_word
returns-in_err-prepare_word c =
    not_prepared (shown c.args.code.now) c.args.places.now c.args.symbols.now c.prepare_word.ensures _ _ c.from_residual.ensures.1 c.in_err-prepare_word.was

pub agrees_at-requires : goal.agrees_at-requires
agrees_at-requires c =
    let passed = (prepared (shown c.args.code.now) _ _ c.prepare_word.ensures c.in_ok-prepare_word.was).0 in
    (all_in_lem (solvable _ _ _ passed c.args.code.now.accepted c.requires.symbols_len.0).placed c.prepare_word.new.f (c.prepare_word.auto.f ∙ c.requires.symbols_len.3), c.requires.symbols_len.0)

pub returns-then-not-agrees_at : goal.returns-then-not-agrees_at
returns-then-not-agrees_at c =
    let (passed, holds) = prepared (shown c.args.code.now) _ _ c.prepare_word.ensures c.in_ok-prepare_word.was in
    let there = enough _ _ _ passed c.args.code.now.accepted c.requires.symbols_len.0 in
    posed_go _ _ _ passed _ (refuse _ (agreed_by _ _ _ c.args.code.now.accepted there holds c.agrees_at.ensures ∙ c.if-not-agrees_at.true))

pub returns : goal.returns
returns c =
    let (passed, holds) = prepared (shown c.args.code.now) _ _ c.prepare_word.ensures c.in_ok-prepare_word.was in
    let there = enough _ _ _ passed c.args.code.now.accepted c.requires.symbols_len.0 in
    let t = agreed_by _ _ _ c.args.code.now.accepted there holds c.agrees_at.ensures ∙ c.if-not-agrees_at.false in
    posed_go _ _ _ passed _
    (pass _ t
    (accept_pair
    (copied (c.prepare_word.auto.f ∙ c.requires.symbols_len.3) (c.copy.auto.out ∙ c.requires.symbols_len.1) c.copy.ensures ∙ rebuilt _ _ _ c.args.code.now.accepted there holds t)
    c.clear_room.ensures))
