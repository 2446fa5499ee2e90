-- The loop's invariant: the pairs of k places behind `left` of them are those behind `done` of all.
use Prim.Native.Nat.{◌≤◌}
use mathlib.Core.Path.{◌≡◌}
use lib.ListN.{length}
use Rattle.patterns.specs.Best.{entries}
use Rattle.patterns.specs.Computed.{pair_left}
use Rattle.gap.proofs.left.pair_left.Given as goal

abbrev pub invariant-loop-k : goal.invariant-loop-k
invariant-loop-k l = (l.k ≤ length l.places) × (pair_left (entries l.trusts l.places) l.k l.left ≡ pair_left (entries l.trusts l.places) (length l.places) l.done)

abbrev pub decreases-loop-k : goal.decreases-loop-k
decreases-loop-k l = l.k
