use mathlib.Core.Path.{sym, ◌∙◌}
use native.Mathlib.Omega.{arith}
use Rattle.engine.proofs.Laws.{by_logged, linear_start, linear_turn, linear_end}
use Rattle.engine.proofs.slices.times_linear.Goals as goal

pub loop-i-init : goal.loop-i-init
loop-i-init c = linear_start _ _ _ _ c.requires.f_nonzero (by_logged c.args.field.now.tables.field c.ranges.alpha.fits c.logarithm-by_alpha.ensures _ c.product_by_log.ensures)

pub loop-i-preserved : goal.loop-i-preserved
loop-i-preserved c =
    linear_turn _ _ _ _ c.loop-i.i c.loop-i.f _ (omega arith) (by_logged c.args.field.now.tables.field c.ranges.alpha.fits c.logarithm-by_alpha.ensures _ c.product_by_log-in-loop-i.ensures) ∙ c.loop-i.invariant

pub returns : goal.returns
returns c = sym (linear_end _ _ _ _ c.loop-i.i c.loop-i.f (omega arith)) ∙ c.loop-i.invariant
