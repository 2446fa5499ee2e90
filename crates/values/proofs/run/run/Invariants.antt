-- The loop's invariant: the arrays show the pair and the interpolant of the first i points, at the points from i on.
use Rattle.field.specs.Galois.{galois}
use Rattle.elliptic.specs.Pair.{after}
use Rattle.values.specs.Values.{Shows, ShownIn, points_in}
use Rattle.values.proofs.run.run.Given as goal

abbrev pub invariant-loop-i : goal.invariant-loop-i
invariant-loop-i l = ShownIn l.field.number l.xs l.initial.u l.i l.l l.u l.n (after (galois l.field.number) (points_in l.xs l.initial.u) l.symbols l.i) × Shows l.field.number l.xs l.initial.u l.i (after (galois l.field.number) (points_in l.xs l.initial.u) l.symbols l.i).word l.f
