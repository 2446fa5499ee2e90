-- The loop's invariant: the parts of the first i rows stand in the buffer, and are added to the sums.
use Rattle.matrix.specs.Given.{Parts}
use Rattle.matrix.proofs.write.part_rows.Given as goal

abbrev pub invariant-loop-i : goal.invariant-loop-i
invariant-loop-i l = Parts l.field.number l.k l.px l.l l.u l.a l.b l.sums l.out l.i
