-- The loop's invariant: the arrays show the pair of the first i points, at the points from i on.
use mathlib.Core.List.{[]}
use Prim.Native.Nat.{◌≤◌, ◌-◌}
use Rattle.field.specs.Galois.{galois}
use Rattle.elliptic.specs.Pair.{after}
use Rattle.values.specs.Values.{ShownIn, points_in}
use Rattle.two_places.proofs.run.run_pair.Given as goal

abbrev pub invariant-loop-i : goal.invariant-loop-i
invariant-loop-i l = (l.i ≤ l.count) × ShownIn l.field.number l.xs l.initial.u l.i l.l l.u l.n (after (galois l.field.number) (points_in l.xs l.initial.u) [] l.i)

abbrev pub decreases-loop-i : goal.decreases-loop-i
decreases-loop-i l = l.count - l.i
