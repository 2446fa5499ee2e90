-- The loop's invariant: what it has is the cheapest of the tries so far.
use Rattle.tries.proofs.Choosing.{Tried}
use Rattle.tries.proofs.choose.choose.Given as goal

abbrev pub invariant-loop-j : goal.invariant-loop-j
invariant-loop-j l = Tried l.fixed l.slots l.half l.from (l.initial.cost, l.initial.e) l.j (l.cost, l.e)
