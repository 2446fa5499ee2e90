-- The loop's invariant: the flag is the test of the symbols so far.
use mathlib.Core.Path.{◌≡◌}
use Rattle.basics.specs.Lists.{all, table}
use Rattle.code.specs.Lists.{is_below}
use Rattle.code.proofs.Marking.{element}
use Rattle.code.proofs.lists.all_below.Given as goal

abbrev pub invariant-loop-symbol : goal.invariant-loop-symbol
invariant-loop-symbol l = l.right ≡ all (is_below l.q) (table (element l.symbols) l.symbol-index)
