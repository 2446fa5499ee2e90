-- The loop's invariant: the first i rows are completed, the others as they were.
use Rattle.matrix.proofs.Marks.{Completing}
use Rattle.matrix.proofs.write.complete_rows.Given as goal

abbrev pub invariant-loop-i : goal.invariant-loop-i
invariant-loop-i l = Completing l.k l.places l.px l.a l.b l.sums l.initial.out l.out l.i
