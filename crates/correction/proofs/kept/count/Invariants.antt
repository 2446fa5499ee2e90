-- The loop's invariant: c kept places are among the first places.
use mathlib.Core.Path.{◌≡◌}
use lib.ListN.{length}
use Rattle.correction.specs.Kept.{kept_before}
use Rattle.correction.proofs.kept.count.Given as goal

abbrev pub invariant-loop-x : goal.invariant-loop-x
invariant-loop-x l = l.c ≡ length (kept_before l.e l.x-index)
