-- The loop's invariant: both parts are stored over the first j coordinates.
use Prim.Native.Nat.{ℕ, ◌<◌}
use lib.ListN.{get_or}
use Rattle.evaluation.specs.Parts.{Bytes, Right}
use Rattle.evaluation.proofs.lanes.split.Given as goal

abbrev pub invariant-loop-j : goal.invariant-loop-j
invariant-loop-j l = Bytes l.a l.b × ((t : ℕ) → t < l.j → Right l.field.number l.f l.a l.b (get_or l.xs t 0))
