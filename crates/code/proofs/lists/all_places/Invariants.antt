-- The loop's invariant: the flag is the test of the places so far.
use mathlib.Core.Path.{◌≡◌}
use Rattle.basics.specs.Lists.{all, table}
use Rattle.code.specs.Lists.{is_place}
use Rattle.code.proofs.Marking.{element}
use Rattle.code.proofs.lists.all_places.Given as goal

abbrev pub invariant-loop-place : goal.invariant-loop-place
invariant-loop-place l = l.right ≡ all (is_place l.n) (table (element l.places) l.place-index)
