use mathlib.Core.Path.{refl}
use native.Mathlib.Omega.{arith}
use Rattle.rolling.proofs.Totals.{one_added, added_small}
use Rattle.rolling.proofs.mean.add_up.Goals as goal

pub overflow_add-count : goal.overflow_add-count
overflow_add-count c =
    let new = one_added _ c.loop-code.invariant (omega arith) c.from-present.ensures refl in
    omega (arith, (added_small _ new c.requires.0 c.requires.1).0)

pub overflow_add-sum : goal.overflow_add-sum
overflow_add-sum c =
    let new = one_added _ c.loop-code.invariant (omega arith) c.from-present.ensures c.from.ensures in
    omega (arith, (added_small _ new c.requires.0 c.requires.1).1)

pub loop-code-preserved : goal.loop-code-preserved
loop-code-preserved c = one_added _ c.loop-code.invariant (omega arith) c.from-present.ensures c.from.ensures
