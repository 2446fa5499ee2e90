-- The loop's invariant: the sums are what the first i rows leave of 1.
use Rattle.picked_rows.proofs.Rows.{LeftBy}
use Rattle.picked_rows.proofs.sums.sum_rows.Given as goal

abbrev pub invariant-loop-i : goal.invariant-loop-i
invariant-loop-i l = LeftBy l.field.number l.k l.px l.l l.u l.a l.b l.sums l.i
