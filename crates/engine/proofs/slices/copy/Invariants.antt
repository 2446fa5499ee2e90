-- The loop's invariant: the first i elements are copied, and the rest of out is as it was.
use mathlib.Core.Path.{◌≡◌}
use lib.ListN.{get_or}
use Rattle.basics.proofs.Loops.{filled}
use Rattle.engine.proofs.slices.copy.Given as goal

abbrev pub invariant-loop-i : goal.invariant-loop-i
invariant-loop-i l = l.out ≡ filled (λ k. get_or l.from k 0) l.initial.out l.i
