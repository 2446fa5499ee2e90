use mathlib.Core.Path.{◌≡◌}
use native.Mathlib.Omega.{arith}
use Rattle.evaluation.proofs.lanes.run_four.Goals as goal

pub returns : goal.returns
returns c =
    let one : c.loop-i.i ≡ 1 = omega arith in
    (rw one at c.loop-i.invariant.1, c.loop-i.invariant.2)
