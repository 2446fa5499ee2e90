-- The loop's invariant: the values at the first j places are put back.
use Rattle.solving.proofs.Restored.{PutTo}
use Rattle.solving.proofs.restore.restore.Given as goal

abbrev pub invariant-loop-j : goal.invariant-loop-j
invariant-loop-j l = PutTo l.places l.w l.f l.j
