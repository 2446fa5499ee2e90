-- The loop's invariant: the numbers met so far have marks, no others do, and the flag says that none of them stands twice.
use Prim.Native.Nat.{◌≤◌}
use mathlib.Core.Path.{◌≡◌}
use lib.ListN.{length}
use Rattle.code.proofs.Marking.{element, Marked}
use Rattle.code.proofs.lists.unmarked.Given as goal

abbrev pub invariant-loop-i : goal.invariant-loop-i
invariant-loop-i l = (l.i ≤ length l.list) × (length l.seen ≡ length l.initial.seen) × Marked (element l.list) l.seen l.i l.apart
