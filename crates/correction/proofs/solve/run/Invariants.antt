-- The loop's invariant: the arrays show the pair and the interpolant of the first i kept places at all points.
use Rattle.correction.specs.Runs.{RanKept}
use Rattle.correction.proofs.solve.run.Given as goal

abbrev pub invariant-loop-i : goal.invariant-loop-i
invariant-loop-i l = RanKept l.field.number l.xs l.ys l.r l.e l._i l.l l.u l.f l.n l.behind
