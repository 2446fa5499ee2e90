-- The loop's invariant: what is done, and what the rest is to become, is the sum.
use mathlib.Core.Path.{◌≡◌}
use Rattle.field.specs.Galois.{galois}
use Rattle.elliptic.specs.Pair.{add_scaled}
use Rattle.engine.proofs.Laws.{sum_from_lem}
use Rattle.engine.proofs.slices.add_scaled.Given as goal

abbrev pub invariant-loop-i : goal.invariant-loop-i
invariant-loop-i l = sum_from_lem l.field.number l.t l.i l.h l.f ≡ add_scaled (galois l.field.number) l.t l.h l.initial.f
