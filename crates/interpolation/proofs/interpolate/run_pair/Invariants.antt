-- The loop's invariant: the arrays hold the pair of the first i places.
use mathlib.Core.List.{[]}
use Rattle.field.specs.Galois.{galois}
use Rattle.elliptic.specs.Pair.{after}
use Rattle.engine.specs.Arrays.{Pair}
use Rattle.engine.specs.Places.{points_of}
use Rattle.interpolation.proofs.interpolate.run_pair.Given as goal

abbrev pub invariant-loop-i : goal.invariant-loop-i
invariant-loop-i l = Pair l.l l.u l.n (after (galois l.field.number) (points_of l.xs l.ys l.places) [] l.i)
