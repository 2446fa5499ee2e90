-- The loop's invariant: the row is complete at the points of the slots before s.
use Rattle.generator.proofs.Symbols.{Completing}
use Rattle.generator.proofs.entries.complete_row.Given as goal

abbrev pub invariant-loop-s : goal.invariant-loop-s
invariant-loop-s l = Completing l.j l.count l.xs l.a l.b l.sums l.initial.row l.s l.row
