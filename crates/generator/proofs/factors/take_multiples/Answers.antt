use mathlib.Core.Path.{◌≡◌, refl}
use native.Mathlib.Omega.{arith}
use Rattle.engine.proofs.Laws.{logged, by_logged}
use Rattle.values.proofs.Sweeps.{sweeping_none, sweeping_turn}
use Rattle.generator.proofs.Turns.{multiple_by, one_more, sought_none, sought_here, sought_on, sought_all}
use Rattle.generator.proofs.factors.take_multiples.Goals.{then-x-alpha, else-x-alpha}
use Rattle.generator.proofs.factors.take_multiples.Goals as goal

pub loop-j-init : goal.loop-j-init
loop-j-init c = (sweeping_none _ _ _, refl, sought_none _ _ _)

pub product_by_log-requires : goal.product_by_log-requires
product_by_log-requires c = logged c.args.field.now.tables.field c.ranges.t.fits c.logarithm-by_t.ensures

pub loop-j-preserved : goal.loop-j-preserved
loop-j-preserved c =
    let p = by_logged c.args.field.now.tables.field c.ranges.t.fits c.logarithm-by_t.ensures _ c.product_by_log.ensures in
    let e = multiple_by c.args.field.now.number c.args.alpha c.args.t c.args.xs.now c.args.b.now c.loop-j.invariant.0 p c.quotient-e.ensures in (
      sweeping_turn _ _ _ c.loop-j.j (omega (arith, c.loop-j-test.true, c.requires.row_lists.0.firsts)) c.loop-j.invariant.0 e,
      one_more _ c.loop-j.j c.loop-j.invariant.1 e,
      elim c.if-x-alpha.branch [
        | then-x-alpha w ↦ rw w.over-is (sought_here c.loop-j-test.true c.loop-j.invariant.2 w.if-x-alpha.true)
        | else-x-alpha w ↦ rw w.over-is (sought_on c.loop-j.invariant.2 w.if-x-alpha.false)
      ],
    )

pub returns : goal.returns
returns c =
    let full : c.loop-j.j ≡ c.args.count = omega arith in
    (rw (← full) c.loop-j.invariant.0, rw (← full) c.loop-j.invariant.1, sought_all (rw full at c.loop-j.invariant.2))
