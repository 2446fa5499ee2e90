use Prim.Native.Nat.{◌-◌, ◌≤◌}
use mathlib.Core.Path.{refl, sym, ◌∙◌}
use native.Mathlib.Omega.{arith}
use Rattle.patterns.specs.Best.{entries}
use Rattle.gap.proofs.Least.{row_passed, passed_true, passed_false}
use Rattle.gap.proofs.left.pair_left.Goals as goal

pub loop-k-init : goal.loop-k-init
loop-k-init c = (omega arith, refl)

-- what a turn's test says
turn : (c : goal.In-loop-k) → (2 ≤ c.loop-k.k) × (c.loop-k.k - 1 ≤ c.loop-k.left)
turn c = passed_true _ _ (sym c.passed.ensures ∙ c.loop-k-test.true)

pub overflow_sub-k : goal.overflow_sub-k
overflow_sub-k c = omega (arith, turn c)

pub overflow_sub-left : goal.overflow_sub-left
overflow_sub-left c = (turn c).1

pub loop-k-smaller : goal.loop-k-smaller
loop-k-smaller c = omega (arith, turn c)

pub loop-k-preserved : goal.loop-k-preserved
loop-k-preserved c =
    (omega (arith, c.loop-k.invariant.0), row_passed (entries c.args.trusts.now c.args.places.now) c.loop-k.k c.loop-k.left (omega (arith, turn c)) (turn c).1 ∙ c.loop-k.invariant.1)

pub row_left-requires : goal.row_left-requires
row_left-requires c =
    (c.requires, c.loop-k.invariant.0, passed_false _ _ (sym c.passed.ensures ∙ c.loop-k-test.false))

pub returns : goal.returns
returns c = rw (c.row_left.ensures, c.loop-k.invariant.1)
