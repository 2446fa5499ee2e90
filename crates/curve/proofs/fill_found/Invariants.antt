-- The invariant: what is below x is found.
use Rattle.curve.specs.Roots.{AllFound}
use Rattle.curve.proofs.fill_found.Given as goal

abbrev pub invariant-loop-x : goal.invariant-loop-x
invariant-loop-x l = AllFound l.field.number l.c l.x l.found
