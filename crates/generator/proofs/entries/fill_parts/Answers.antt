use native.Mathlib.Omega.{arith}
use Rattle.values.proofs.Sweeps.{sweeping_turn}
use Rattle.generator.proofs.Symbols.{filling_turn, filling_all, part_by, sum_by}
use Rattle.generator.proofs.entries.fill_parts.Goals as goal

pub loop-s-preserved : goal.loop-s-preserved
loop-s-preserved c =
    let e = part_by c.args.field.now.number c.args.index.0 c.args.count c.args.xs.now c.args.l.now c.args.u.now c.args.a.now c.args.b.now c.loop-s.s c.requires.factor.0 c.requires.factor.1 c.part-e.ensures in (
      sweeping_turn _ _ _ c.loop-s.s (omega (arith, c.loop-s-test.true, c.requires.slots.0.sum_size)) c.loop-s.invariant.0 (sum_by c.loop-s.invariant.0 e),
      filling_turn c.args.field.now.number c.args.index.0 c.args.count c.args.xs.now c.args.l.now c.args.u.now c.args.a.now c.args.b.now c.loop-s.auto.s c.loop-s-test.true e c.index_in-i.ensures c.loop-s.invariant.1,
    )

pub returns : goal.returns
returns c =
    filling_all c.args.field.now.number c.args.index.0 c.args.count c.args.xs.now c.args.l.now c.args.u.now c.args.a.now c.args.b.now c.loop-s-test.false (c.loop-s.auto.s-end c.requires.slots.0.points) c.loop-s.invariant.0 c.loop-s.invariant.1
