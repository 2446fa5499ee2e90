-- The loop's invariant: the free coordinates before t are in place, and s is where the next one goes.
use Prim.Native.Nat.{◌-◌}
use lib.ListN.{length}
use Rattle.arrangement.proofs.Arranged.{ArrangedTo}
use Rattle.arrangement.proofs.arrange.place_rest.Given as goal

abbrev pub invariant-loop-s : goal.invariant-loop-s
invariant-loop-s l = ArrangedTo l.from l.places l.out l.t l.s

abbrev pub decreases-loop-s : goal.decreases-loop-s
decreases-loop-s l = length l.from - l.t
