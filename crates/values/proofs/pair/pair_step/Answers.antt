-- The two cases of a step: L is zero at the place, or it is not.
use mathlib.Core.Path.{refl}
use Rattle.values.proofs.Steps.{keeps, steps, keeps_passes, steps_passes}
use Rattle.values.proofs.pair.pair_step.Goals as goal

pub returns-then-at-eq0 : goal.returns-then-at-eq0
returns-then-at-eq0 c =
    (keeps c.args.field.now.tables.field c.requires.j_in_bounds.0 _ _ c.requires.j_in_bounds.1.first c.requires.j_in_bounds.1.second c.if-at-eq0.true c.raise.ensures refl refl c.grown.ensures, keeps_passes c.requires.j_in_bounds.1.second c.if-at-eq0.true c.raise.ensures)

pub returns : goal.returns
returns c =
    (steps c.args.field.now.tables.field c.requires.j_in_bounds.0 _ _ c.requires.j_in_bounds.1.first c.requires.j_in_bounds.1.second c.if-at-eq0.false c.quotient-t.ensures c.gain_raise.ensures.0 c.gain_raise.ensures.1 (rw (← c.grown-2.ensures, ← c.longer.ensures) c.ordered.ensures), steps_passes c.requires.j_in_bounds.1.first c.requires.j_in_bounds.1.second c.if-at-eq0.false c.quotient-t.ensures c.gain_raise.ensures.0 c.gain_raise.ensures.1)
