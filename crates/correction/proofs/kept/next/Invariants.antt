-- The loop's invariant: no place from j to i is kept.
use mathlib.Core.Path.{◌≡◌}
use Rattle.correction.specs.Kept.{kept_before}
use Rattle.correction.proofs.kept.next.Given as goal

abbrev pub invariant-loop-i : goal.invariant-loop-i
invariant-loop-i l = kept_before l.e l.i ≡ kept_before l.e l.j
