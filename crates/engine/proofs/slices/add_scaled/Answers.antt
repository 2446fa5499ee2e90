use mathlib.Core.Path.{sym, ◌∙◌}
use native.Mathlib.Omega.{arith}
use Rattle.engine.proofs.Laws.{by_logged, add_turn, add_end}
use Rattle.engine.proofs.slices.add_scaled.Goals as goal

pub loop-i-preserved : goal.loop-i-preserved
loop-i-preserved c =
    add_turn _ _ c.loop-i.i _ c.loop-i.f _ c.loop-i-test.true (omega arith) (by_logged c.args.field.now.tables.field c.ranges.t.fits c.logarithm-by_t.ensures _ c.product_by_log.ensures) ∙ c.loop-i.invariant

pub returns : goal.returns
returns c = sym (add_end c.args.field.now.number c.args.t c.loop-i.i c.args.h.now _ c.loop-i-test.false) ∙ c.loop-i.invariant
