use native.Mathlib.Omega.{arith}
use Rattle.engine.proofs.Laws.{logged, by_logged}
use Rattle.values.proofs.Sweeps.{sweeping_none, sweeping_turn, sweeping_all, raised_by, gained_by}
use Rattle.values.proofs.sweep.gain_both_raise.Goals as goal

pub loop-i-init : goal.loop-i-init
loop-i-init c = (sweeping_none _ _ _, sweeping_none _ _ _, sweeping_none _ _ _)

pub product_by_log-gain-requires : goal.product_by_log-gain-requires
product_by_log-gain-requires c = logged c.args.field.now.tables.field c.ranges.t.fits c.logarithm-by_t.ensures

pub product_by_log-correction-requires : goal.product_by_log-correction-requires
product_by_log-correction-requires c = logged c.args.field.now.tables.field c.ranges.e.fits c.logarithm-by_e.ensures

pub loop-i-preserved : goal.loop-i-preserved
loop-i-preserved c =
    let old = c.loop-i.invariant.0.rest c.loop-i.i (omega arith) in
    let gain = by_logged c.args.field.now.tables.field c.ranges.t.fits c.logarithm-by_t.ensures _ c.product_by_log-gain.ensures in
    let correction = by_logged c.args.field.now.tables.field c.ranges.e.fits c.logarithm-by_e.ensures _ c.product_by_log-correction.ensures in (
      sweeping_turn _ _ _ c.loop-i.i (omega (arith, c.requires.h_len.0)) c.loop-i.invariant.0 (raised_by c.args.field.now.number c.loop-i.invariant.0 c.args.xs.now c.args.alpha c.product.ensures),
      sweeping_turn _ _ _ c.loop-i.i (omega (arith, c.requires.h_len.1)) c.loop-i.invariant.1 (gained_by c.args.field.now.number c.args.t c.args.h.now c.loop-i.invariant.1 old gain),
      sweeping_turn _ _ _ c.loop-i.i (omega (arith, c.requires.h_len.2)) c.loop-i.invariant.2 (gained_by c.args.field.now.number c.args.e c.args.h.now c.loop-i.invariant.2 old correction),
    )

pub returns : goal.returns
returns c =
    (sweeping_all _ _ _ (omega (arith, c.requires.h_len.0)) c.loop-i.invariant.0, sweeping_all _ _ _ (omega (arith, c.requires.h_len.1)) c.loop-i.invariant.1, sweeping_all _ _ _ (omega (arith, c.requires.h_len.2)) c.loop-i.invariant.2)
