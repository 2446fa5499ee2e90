-- The loop's invariant: each lane has passed the coefficients from i on, at its own coordinate.
use Prim.Native.Nat.{◌<◌}
use Rattle.evaluation.specs.Parts.{AtFour, Taken}
use Rattle.evaluation.proofs.lanes.run_four.Given as goal

abbrev pub invariant-loop-i : goal.invariant-loop-i
invariant-loop-i l = (0 < l.i) × AtFour l.field.number l.f l.i l.g l.g × Taken l.xs l.j l.g
