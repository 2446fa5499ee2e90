-- The loop's invariant: the values at the free points before t are put back, and the later marks still stand.
use Rattle.solving.proofs.Restored.{FreeTo}
use Rattle.solving.proofs.restore.restore_free.Given as goal

abbrev pub invariant-loop-t : goal.invariant-loop-t
invariant-loop-t l = FreeTo l.places l.w l.f l.t l.s
