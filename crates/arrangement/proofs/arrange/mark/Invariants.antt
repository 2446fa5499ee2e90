-- The loop's invariant: the first j places are marked.
use mathlib.Core.Path.{◌≡◌}
use lib.ListN.{length, take}
use Rattle.basics.specs.Lists.{table}
use Rattle.arrangement.specs.Arranged.{free_at}
use Rattle.arrangement.proofs.arrange.mark.Given as goal

abbrev pub invariant-loop-j : goal.invariant-loop-j
invariant-loop-j l = l.free ≡ table (free_at (take l.j l.places)) (length l.initial.free)
