-- The loop's invariant: the first i values are in place, and the rest of out is as it was.
use mathlib.Core.Path.{◌≡◌}
use Rattle.basics.proofs.Loops.{filled}
use Rattle.evaluation.specs.Parts.{joined_at}
use Rattle.evaluation.proofs.word.join.Given as goal

abbrev pub invariant-loop-i : goal.invariant-loop-i
invariant-loop-i l = l.out ≡ filled (joined_at l.field.number l.xs l.ys l.a l.b) l.initial.out l.i
