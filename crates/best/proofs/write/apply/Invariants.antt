-- The loop's invariant: what is written, and what the rest is to become, is the changed word.
use mathlib.Core.Path.{◌≡◌}
use Rattle.patterns.specs.Best.{changed}
use Rattle.best.proofs.Words.{applied}
use Rattle.best.proofs.write.apply.Given as goal

abbrev pub invariant-loop-i : goal.invariant-loop-i
invariant-loop-i l = applied l.i l.received l.difference l.out ≡ changed l.received l.difference
