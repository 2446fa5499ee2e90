use mathlib.Core.Path.{ap}
use Prim.Native.Nat.{◌+◌}
use native.Mathlib.Omega.{arith}
use Rattle.evaluation.proofs.Marks.{marked_none, marked_more, marked_all}
use Rattle.evaluation.proofs.distinct.distinct.Goals as goal

pub loop-x-init : goal.loop-x-init
loop-x-init c = marked_none c.args.xs.now c.requires.1 c.requires.2

pub loop-x-preserved : goal.loop-x-preserved
loop-x-preserved c =
    let more = marked_more c.loop-x.invariant (omega (arith, c.from.ensures, c.type_inv.xs c.loop-x.x-index)) (omega (arith, c.loop-x.invariant.few, c.requires.0)) c.from.ensures (ap (λ k. c.loop-x.d + k) c.from-d.ensures) in
    rw (c.from-in-loop-x.ensures, ← c.from.ensures) more

pub returns : goal.returns
returns c = marked_all c.loop-x.invariant (omega arith)
