-- The loop's invariant: the arrays hold the pair and the interpolant of the first i places.
use Rattle.field.specs.Galois.{galois}
use Rattle.elliptic.specs.Pair.{after}
use Rattle.engine.specs.Arrays.{Filled}
use Rattle.engine.specs.Places.{points_of}
use Rattle.interpolation.proofs.interpolate.run.Given as goal

abbrev pub invariant-loop-i : goal.invariant-loop-i
invariant-loop-i l = Filled l.l l.u l.f l.n (after (galois l.field.number) (points_of l.xs l.ys l.places) l.symbols l.i)
