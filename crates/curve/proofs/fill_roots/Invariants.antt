-- The invariant: the table inverts z² + z as far as z.
use Rattle.curve.specs.Roots.{square_plus, Inverts}
use Rattle.curve.proofs.fill_roots.Given as goal

abbrev pub invariant-loop-z : goal.invariant-loop-z
invariant-loop-z l = Inverts (square_plus l.field.number) l.z l.roots
