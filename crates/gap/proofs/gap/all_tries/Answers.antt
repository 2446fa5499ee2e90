-- Products of numbers within bounds are within theirs.
use native.Mathlib.Omega.{arith}
use native.Mathlib.Nat.{mul-le-mul}
use Rattle.gap.proofs.gap.all_tries.Goals as goal

pub overflow_mul-result : goal.overflow_mul-result
overflow_mul-result c = record { fits = omega (arith, mul-le-mul c.requires.0 c.requires.1) }

pub overflow_mul-result-2 : goal.overflow_mul-result-2
overflow_mul-result-2 c = record { fits = omega (arith, mul-le-mul c.requires.1 c.requires.1) }

pub overflow_mul-result-3 : goal.overflow_mul-result-3
overflow_mul-result-3 c = record { fits = omega (arith, mul-le-mul c.pairs_of.ensures.1 (mul-le-mul c.requires.1 c.requires.1)) }

pub overflow_add-result : goal.overflow_add-result
overflow_add-result c =
    record { fits = omega (arith, mul-le-mul c.requires.0 c.requires.1, mul-le-mul c.pairs_of.ensures.1 (mul-le-mul c.requires.1 c.requires.1)) }

pub overflow_add-result-2 : goal.overflow_add-result-2
overflow_add-result-2 c =
    record { fits = omega (arith, mul-le-mul c.requires.0 c.requires.1, mul-le-mul c.pairs_of.ensures.1 (mul-le-mul c.requires.1 c.requires.1)) }
