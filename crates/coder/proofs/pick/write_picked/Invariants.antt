-- The loop's invariant: the first i places are copied; the last store is behind them.
use mathlib.Core.Path.{◌≡◌}
use lib.ListN.{take}
use Rattle.coder.proofs.pick.write_picked.Given as goal

abbrev pub invariant-loop-i : goal.invariant-loop-i
invariant-loop-i l = take l.i l.out ≡ take l.i l.ranked
