-- Three lines, one after the other.
use mathlib.Core.Path.{sym, ◌∙◌, ap}
use Rattle.text.specs.Stages.{all_in}
use Rattle.text.proofs.Sheets.{no_field, no_curve, no_dimension, whole_header}
use Rattle.text.proofs.sheet.read_header.Goals as goal

pub returns-in_err-second : goal.returns-in_err-second
returns-in_err-second c =
    rw c.from_residual.ensures (no_field c.args.s.now (sym c.read_exactly.ensures ∙ ap (all_in c.args.s.now _) c.in_err-second.was))

pub returns-in_err-third : goal.returns-in_err-third
returns-in_err-third c =
    rw c.from_residual-in_err-third.ensures
    (no_curve c.args.s.now _ _ (sym c.read_exactly.ensures ∙ ap (all_in c.args.s.now c.read_exactly.new.out) c.in_ok-second.was)
    (sym c.read_exactly-2.ensures ∙ ap (all_in c.args.s.now _) c.in_err-third.was))

pub returns-in_err-next : goal.returns-in_err-next
returns-in_err-next c =
    rw c.from_residual-in_err-next.ensures
    (no_dimension c.args.s.now _ _ (sym c.read_exactly.ensures ∙ ap (all_in c.args.s.now c.read_exactly.new.out) c.in_ok-second.was) _ _
    (sym c.read_exactly-2.ensures ∙ ap (all_in c.args.s.now c.read_exactly-2.new.out) c.in_ok-third.was)
    (sym c.read_exactly-3.ensures ∙ ap (all_in c.args.s.now _) c.in_err-next.was))

pub returns : goal.returns
returns c =
    whole_header c.args.s.now _ _ (sym c.read_exactly.ensures ∙ ap (all_in c.args.s.now c.read_exactly.new.out) c.in_ok-second.was) _ _
    (sym c.read_exactly-2.ensures ∙ ap (all_in c.args.s.now c.read_exactly-2.new.out) c.in_ok-third.was) _ _
    (sym c.read_exactly-3.ensures ∙ ap (all_in c.args.s.now c.read_exactly-3.new.out) c.in_ok-next.was)
