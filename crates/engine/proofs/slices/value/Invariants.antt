-- The loop's invariant: (r, s) is the pair of the coefficients that were passed.
use Prim.Native.Nat.{◌≤◌}
use Rattle.engine.proofs.Laws.{Passed}
use Rattle.engine.proofs.slices.value.Given as goal

abbrev pub invariant-loop-i : goal.invariant-loop-i
invariant-loop-i l = (1 ≤ l.i) × Passed l.field.number l.x l.f l.r l.s l.i
