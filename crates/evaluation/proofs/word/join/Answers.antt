use native.Mathlib.Omega.{arith}
use Rattle.basics.proofs.Loops.{filled_turn}
use Rattle.evaluation.specs.Parts.{joined_at}
use Rattle.evaluation.proofs.Passing.{joined}
use Rattle.evaluation.proofs.word.join.Goals as goal

pub loop-i-preserved : goal.loop-i-preserved
loop-i-preserved c =
    let g = joined_at c.args.field.now.number c.args.xs.now c.args.ys.now c.args.a.now c.args.b.now in
    let value = joined c.args.field.now.number c.args.xs.now c.args.ys.now c.args.a.now c.args.b.now c.loop-i.i c.from-at.ensures c.product.ensures in
    filled_turn g c.args.out.now c.loop-i.i (omega arith) c.loop-i.invariant value
