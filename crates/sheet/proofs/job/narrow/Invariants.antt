-- The loop's invariant: the first i are the symbols.
use mathlib.Core.Path.{◌≡◌}
use lib.ListN.{take}
use Rattle.sheet.proofs.job.narrow.Given as goal

abbrev pub invariant-loop-i : goal.invariant-loop-i
invariant-loop-i l = take l.i l.symbols ≡ take l.i l.message
