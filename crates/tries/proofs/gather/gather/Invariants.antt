-- The loop's invariant: what is done, and what the rest adds, is all.
use Rattle.tries.proofs.Gathering.{Passing}
use Rattle.tries.proofs.gather.gather.Given as goal

abbrev pub invariant-loop-i : goal.invariant-loop-i
invariant-loop-i l = Passing l.field.number l.half l.log l.trusts l.row l.late l.difference l.i l.cost l.slots
