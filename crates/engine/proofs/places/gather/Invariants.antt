-- The loop's invariant: the first i coordinates are in place, and the rest is as it was.
use mathlib.Core.Path.{◌≡◌}
use Rattle.basics.proofs.Loops.{filled}
use Rattle.engine.specs.Places.{coordinate_at}
use Rattle.engine.proofs.places.gather.Given as goal

abbrev pub invariant-loop-i : goal.invariant-loop-i
invariant-loop-i l = l.out ≡ filled (coordinate_at l.from l.places) l.initial.out l.i
