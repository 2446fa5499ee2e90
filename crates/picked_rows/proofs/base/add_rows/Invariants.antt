-- The loop's invariant: the difference is that from the codeword with the first i symbols.
use Rattle.code.specs.Shown.{shown}
use Rattle.picked_rows.proofs.Difference.{Added}
use Rattle.picked_rows.proofs.base.add_rows.Given as goal

abbrev pub invariant-loop-i : goal.invariant-loop-i
invariant-loop-i l = Added (shown l.code) l.received l.trusts l.difference l.i
