-- The loop's invariant: the first i places stand there.
use mathlib.Core.Path.{◌≡◌}
use Rattle.basics.proofs.Loops.{filled}
use Rattle.coder.specs.Stages.{place_at}
use Rattle.coder.proofs.recover.fill_places.Given as goal

abbrev pub invariant-loop-i : goal.invariant-loop-i
invariant-loop-i l = l.places ≡ filled place_at l.initial.places l.i
