use mathlib.Core.Path.{ap, ap₂, ◌∙◌}
use native.Mathlib.Omega.{arith}
use lib.Bits.{bit_xor}
use Rattle.field.specs.Sum.{◌⊕◌}
use Rattle.field.specs.Galois.{product}
use Rattle.engine.proofs.Laws.{logged, by_logged}
use Rattle.values.proofs.Sweeps.{sweeping_turn, sweeping_all, raised_by, gained_by}
use Rattle.two_places.proofs.turn.sweep_twice.Goals as goal

pub product_by_log-requires : goal.product_by_log-requires
product_by_log-requires c = logged c.args.field.now.tables.field c.ranges.t.fits c.logarithm-by_t.ensures

pub product_by_log-gain-requires : goal.product_by_log-gain-requires
product_by_log-gain-requires c = logged c.args.field.now.tables.field c.ranges.s.fits c.logarithm-by_s.ensures

pub loop-i-preserved : goal.loop-i-preserved
unfolding ◌⊕◌
loop-i-preserved c =
    let first = by_logged c.args.field.now.tables.field c.ranges.t.fits c.logarithm-by_t.ensures _ c.product_by_log.ensures in
    let between = gained_by c.args.field.now.number c.args.t c.args.h.now c.loop-i.invariant.1 (c.loop-i.invariant.0.rest c.loop-i.i (omega arith)) first in
    let second = by_logged c.args.field.now.tables.field c.ranges.s.fits c.logarithm-by_s.ensures _ c.product_by_log-gain.ensures in
    let raised = raised_by c.args.field.now.number c.loop-i.invariant.0 c.args.xs.now c.args.alpha c.product.ensures in (
      sweeping_turn _ _ _ c.loop-i.i (omega (arith, c.requires.h_len.0, c.loop-i-test.true)) c.loop-i.invariant.0 (ap₂ bit_xor raised (second ∙ ap (product c.args.field.now.number c.args.s) between)),
      sweeping_turn _ _ _ c.loop-i.i (omega (arith, c.requires.h_len.1, c.loop-i-test.true)) c.loop-i.invariant.1 (c.product-low.ensures ∙ ap (product c.args.field.now.number _) between),
    )

pub returns : goal.returns
returns c =
    (sweeping_all _ _ _ (omega (arith, c.requires.h_len.0)) c.loop-i.invariant.0, sweeping_all _ _ _ (omega (arith, c.requires.h_len.1)) c.loop-i.invariant.1)
