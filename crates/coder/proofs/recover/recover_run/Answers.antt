-- All places are used, and then what was solved for, if it agrees.
use mathlib.Core.Path.{sym, ◌∙◌}
use Rattle.basics.proofs.Outcomes.{pass, refuse, accept_pair, meets_as}
use Rattle.code.specs.Shown.{shown}
use Rattle.solving.proofs.Chains.{posed_go, solvable}
use Rattle.coder.proofs.Every.{every_length, every_posed, every_agrees, every_recovered}
use Rattle.coder.proofs.Prepared.{prepared, not_prepared}
use Rattle.coder.proofs.recover.recover_run.Goals as goal

pub prepare-requires : goal.prepare-requires
prepare-requires c =
    record { symbols_len = (c.requires.places_value.1 ∙ sym (every_length _ c.args.code.now.accepted _ c.requires.places_value.0), c.requires.places_value.4) }

-- the outcome has the tests of places, which pass
pub returns-in_err-prepare : goal.returns-in_err-prepare
returns-in_err-prepare c =
    meets_as (every_posed _ c.args.code.now.accepted _ c.requires.places_value.0 _ _)
    (not_prepared (shown c.args.code.now) c.args.places.now c.args.symbols.now c.prepare.ensures _ _ c.from_residual.ensures.1 c.in_err-prepare.was)

pub agrees_all-requires : goal.agrees_all-requires
agrees_all-requires c =
    let (passed, holds) = prepared (shown c.args.code.now) _ _ c.prepare.ensures c.in_ok-prepare.was in
    let lengths = c.requires.places_value.1 ∙ sym (every_length _ c.args.code.now.accepted _ c.requires.places_value.0) in
    record { placed = (solvable _ _ _ passed c.args.code.now.accepted lengths).placed; k_in_bounds = (holds.within, lengths) }

pub returns-then-not-agrees_all : goal.returns-then-not-agrees_all
returns-then-not-agrees_all c =
    let (passed, holds) = prepared (shown c.args.code.now) _ _ c.prepare.ensures c.in_ok-prepare.was in
    let lengths = c.requires.places_value.1 ∙ sym (every_length _ c.args.code.now.accepted _ c.requires.places_value.0) in
    let g = solvable _ _ _ passed c.args.code.now.accepted lengths in
    let says = every_agrees _ c.args.code.now.accepted _ c.requires.places_value.0 _ g.are_symbols c.requires.places_value.1 holds c.agrees_all.ensures in
    meets_as (every_posed _ c.args.code.now.accepted _ c.requires.places_value.0 _ _) (posed_go _ _ _ passed _ (refuse _ (says ∙ c.if-not-agrees_all.true)))

pub returns : goal.returns
returns c =
    let (passed, holds) = prepared (shown c.args.code.now) _ _ c.prepare.ensures c.in_ok-prepare.was in
    let lengths = c.requires.places_value.1 ∙ sym (every_length _ c.args.code.now.accepted _ c.requires.places_value.0) in
    let g = solvable _ _ _ passed c.args.code.now.accepted lengths in
    let says = every_agrees _ c.args.code.now.accepted _ c.requires.places_value.0 _ g.are_symbols c.requires.places_value.1 holds c.agrees_all.ensures in
    let t = says ∙ c.if-not-agrees_all.false in
    meets_as (every_posed _ c.args.code.now.accepted _ c.requires.places_value.0 _ _)
    (posed_go _ _ _ passed _
    (pass _ t (accept_pair (c.write_function.ensures ∙ every_recovered _ c.args.code.now.accepted _ c.requires.places_value.0 _ g.are_symbols c.requires.places_value.1 holds c.requires.places_value.2 t) c.clear_room.ensures)))
