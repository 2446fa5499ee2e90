use native.Mathlib.Omega.{arith}
use Rattle.engine.proofs.Laws.{logged, by_logged}
use Rattle.values.proofs.Sweeps.{sweeping_none, sweeping_turn, sweeping_all, raised_by, gained_by}
use Rattle.locator.proofs.pass.pass.Goals as goal

pub loop-i-init : goal.loop-i-init
loop-i-init c = (sweeping_none _ _ _, sweeping_none _ _ _, sweeping_none _ _ _, sweeping_none _ _ _)

pub product_by_log-gain_a-requires : goal.product_by_log-gain_a-requires
product_by_log-gain_a-requires c = logged c.args.field.now.tables.field c.ranges.ta.fits c.logarithm-log_a.ensures

pub product_by_log-gain_b-requires : goal.product_by_log-gain_b-requires
product_by_log-gain_b-requires c = logged c.args.field.now.tables.field c.ranges.tb.fits c.logarithm-log_b.ensures

pub product_by_log-gain_c-requires : goal.product_by_log-gain_c-requires
product_by_log-gain_c-requires c = logged c.args.field.now.tables.field c.ranges.tc.fits c.logarithm-log_c.ensures

pub loop-i-preserved : goal.loop-i-preserved
loop-i-preserved c =
    let old = c.loop-i.invariant.0.rest c.loop-i.i (omega arith) in
    let gain-a = by_logged c.args.field.now.tables.field c.ranges.ta.fits c.logarithm-log_a.ensures _ c.product_by_log-gain_a.ensures in
    let gain-b = by_logged c.args.field.now.tables.field c.ranges.tb.fits c.logarithm-log_b.ensures _ c.product_by_log-gain_b.ensures in
    let gain-c = by_logged c.args.field.now.tables.field c.ranges.tc.fits c.logarithm-log_c.ensures _ c.product_by_log-gain_c.ensures in (
      sweeping_turn _ _ _ c.loop-i.i (omega arith) c.loop-i.invariant.0 (raised_by c.args.field.now.number c.loop-i.invariant.0 c.args.xs.now c.args.alpha c.product.ensures),
      sweeping_turn _ _ _ c.loop-i.i (omega arith) c.loop-i.invariant.1 (gained_by c.args.field.now.number c.args.ta c.args.p.now c.loop-i.invariant.1 old gain-a),
      sweeping_turn _ _ _ c.loop-i.i (omega arith) c.loop-i.invariant.2 (gained_by c.args.field.now.number c.args.tb c.args.p.now c.loop-i.invariant.2 old gain-b),
      sweeping_turn _ _ _ c.loop-i.i (omega arith) c.loop-i.invariant.3 (gained_by c.args.field.now.number c.args.tc c.args.p.now c.loop-i.invariant.3 old gain-c),
    )

pub returns : goal.returns
returns c = (
  sweeping_all _ _ _ (omega arith) c.loop-i.invariant.0,
  sweeping_all _ _ _ (omega arith) c.loop-i.invariant.1,
  sweeping_all _ _ _ (omega arith) c.loop-i.invariant.2,
  sweeping_all _ _ _ (omega arith) c.loop-i.invariant.3,
)
