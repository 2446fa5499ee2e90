-- The loop's invariant: the first i values are written, and the rest of out is as it was.
use mathlib.Core.Path.{◌≡◌}
use lib.ListN.{get_or}
use Rattle.basics.proofs.Loops.{filled}
use Rattle.field.specs.Galois.{galois}
use Rattle.elliptic.specs.Curve.{point}
use Rattle.elliptic.specs.Pair.{evaluate}
use Rattle.locator.proofs.locate.write_values.Given as goal

abbrev pub invariant-loop-i : goal.invariant-loop-i
invariant-loop-i l = l.out ≡ filled (λ j. evaluate (galois l.field.number) l.f (point (get_or l.xs j 0) (get_or l.ys j 0))) l.initial.out l.i
