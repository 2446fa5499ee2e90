-- The loop's invariant: the codes so far are in the count and the sum.
use Rattle.rolling.proofs.Totals.{Added}
use Rattle.rolling.proofs.mean.add_up.Given as goal

abbrev pub invariant-loop-code : goal.invariant-loop-code
invariant-loop-code l = Added l.codes l.code-index l.count l.sum
