-- The loop's invariant: the indices of the free points before t are in their slots, and s is the slot of the next.
use Prim.Native.Nat.{◌-◌}
use lib.ListN.{length}
use Rattle.generator.proofs.Symbols.{IndexedTo}
use Rattle.generator.proofs.indices.index_free.Given as goal

abbrev pub invariant-loop-s : goal.invariant-loop-s
invariant-loop-s l = IndexedTo l.count l.free l.initial.a l.initial.b l.a l.b l.t l.s

abbrev pub decreases-loop-s : goal.decreases-loop-s
decreases-loop-s l = length l.free - l.t
