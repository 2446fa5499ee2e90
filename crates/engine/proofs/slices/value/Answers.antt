use mathlib.Core.Path.{◌≡◌}
use native.Mathlib.Omega.{arith}
use Rattle.std.proofs.lemmas.Bool.Decides.{nat_tests}
use Rattle.engine.proofs.Laws.{by_logged, horner_start, horner_turn, value_none, value_end}
use Rattle.engine.proofs.slices.value.Goals as goal

pub returns-then-is_empty : goal.returns-then-is_empty
returns-then-is_empty c = value_none _ _ c.args.f.now (grind (arith, nat_tests))

pub loop-i-init : goal.loop-i-init
loop-i-init c = (grind (arith, nat_tests), horner_start _ _ c.args.f.now)

pub loop-i-preserved : goal.loop-i-preserved
loop-i-preserved c =
    (omega arith, horner_turn _ _ _ _ _ c.loop-i.i _ (omega arith) (omega arith) (by_logged c.args.field.now.tables.field c.ranges.x.fits c.logarithm-by_x.ensures _ c.product_by_log.ensures) c.loop-i.invariant.1)

pub returns : goal.returns
returns c =
    let one : c.loop-i.i ≡ 1 = omega arith in
    value_end _ _ _ _ _ _ _ _ (omega arith) (by_logged c.args.field.now.tables.field c.ranges.x.fits c.logarithm-by_x.ensures _ c.product_by_log-2.ensures) c.product.ensures (rw one at c.loop-i.invariant.1)
