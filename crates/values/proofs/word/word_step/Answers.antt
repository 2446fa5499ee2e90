-- The two cases of a step: L is zero at the place, or it is not.
use mathlib.Core.Path.{refl}
use Rattle.values.proofs.Steps.{keeps, steps, word_keeps, word_steps}
use Rattle.values.proofs.word.word_step.Goals as goal

pub returns-then-at-eq0 : goal.returns-then-at-eq0
returns-then-at-eq0 c =
    let pair = keeps c.args.field.now.tables.field c.requires.j_in_bounds.0 _ _ c.requires.j_in_bounds.1.first c.requires.j_in_bounds.1.second c.if-at-eq0.true c.gain_raise.ensures.0 refl refl c.grown.ensures in
    word_keeps c.args.field.now.tables.field c.args.v c.requires.j_in_bounds.0 c.requires.j_in_bounds.2 pair _ c.if-at-eq0.true c.quotient-e.ensures c.gain_raise.ensures.1

pub returns : goal.returns
returns c =
    let order = rw (c.grown-2.ensures, c.longer.ensures) at c.ordered.ensures in
    let pair = steps c.args.field.now.tables.field c.requires.j_in_bounds.0 _ _ c.requires.j_in_bounds.1.first c.requires.j_in_bounds.1.second c.if-at-eq0.false c.quotient-t.ensures c.gain_both_raise.ensures.0 c.gain_both_raise.ensures.1 order in
    word_steps c.args.field.now.tables.field c.args.v c.requires.j_in_bounds.0 c.requires.j_in_bounds.2 pair _ c.if-at-eq0.false c.quotient-e-2.ensures c.gain_both_raise.ensures.2
