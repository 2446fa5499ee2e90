-- The loop's invariant: the first i coordinates are listed, and so is every byte that is marked.
use Rattle.evaluation.proofs.Marks.{Marked}
use Rattle.evaluation.proofs.distinct.distinct.Given as goal

abbrev pub invariant-loop-x : goal.invariant-loop-x
invariant-loop-x l = Marked l.xs l.seen l.out l.d l.x-index
