-- The loop's invariant: what is to be written from `at` on, the places of the bits that are left, makes the buffer what it is to be.
use Prim.Native.Nat.{◌+◌, ◌^◌, ◌<◌}
use mathlib.Core.Path.{◌≡◌}
use lib.Count.{ones}
use lib.Seq.{sets}
use Rattle.bitset.specs.Places.{places_of}
use Rattle.bitset.proofs.list_set.Given as goal

abbrev pub invariant-loop-rest : goal.invariant-loop-rest
invariant-loop-rest l = (sets l.out l.at (places_of l.before l.rest) ≡ sets l.initial.out l.from (places_of l.before l.x)) × (l.at + ones l.rest ≡ l.from + ones l.x) × (l.rest < 2 ^ 64)

abbrev pub decreases-loop-rest : goal.decreases-loop-rest
decreases-loop-rest l = l.rest
