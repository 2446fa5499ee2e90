use mathlib.Core.Path.{◌≡◌, ◌∙◌}
use native.Mathlib.Omega.{arith}
use Rattle.tries.proofs.Choosing.{tried_start, tried_takes, tried_keeps}
use Rattle.tries.specs.Multiples.{Priced}
use Rattle.tries.proofs.choose.choose.Goals.{then-c-cost, else-c-cost}
use Rattle.tries.proofs.choose.choose.Goals as goal

pub loop-j-init : goal.loop-j-init
loop-j-init c = tried_start c.args.fixed c.args.slots.now c.args.half c.args.from (c.args.best.cost, c.args.best.e)

pub loop-j-preserved : goal.loop-j-preserved
loop-j-preserved c =
    let best : Priced = (c.args.best.cost, c.args.best.e) in
    elim c.if-c-cost.branch [
      | then-c-cost w ↦ tried_takes c.args.fixed c.args.slots.now c.args.half c.args.from best (omega arith) c.loop-j.invariant w.if-c-cost.true w.cost-is (w.e-is ∙ w.multiple_of-e.ensures)
      | else-c-cost w ↦ tried_keeps c.args.fixed c.args.slots.now c.args.half c.args.from best (omega arith) c.loop-j.invariant w.if-c-cost.false w.cost-is w.e-is
    ]

pub returns : goal.returns
returns c =
    let e : c.args.to ≡ c.loop-j.j = omega arith in
    rw e c.loop-j.invariant
