-- All sizes are small.
use Prim.Native.Nat.{◌≤◌}
use native.Mathlib.Omega.{arith}
use Rattle.correction.proofs.Locating.{span_small}
use Rattle.correction.proofs.run.layout.Goals as goal

-- N has few coefficients
few : (c : goal.After-span_of) → c.span_of.result ≤ 577
few c = omega (arith, c.span_of.ensures, c.radius-t.ensures, span_small c.args.k c.radius-t.result, c.requires.0, c.requires.1)

pub overflow_mul-result : goal.overflow_mul-result
overflow_mul-result c = record { fits = omega (arith, few c) }

pub overflow_add-result : goal.overflow_add-result
overflow_add-result c = record { fits = omega (arith, few c) }
