-- The size is from 4 to 256.
use native.Mathlib.Omega.{arith}
use Rattle.field.proofs.Galois.{size_le, size_ge}
use Rattle.field.proofs.period.Goals as goal

pub overflow_sub-result : goal.overflow_sub-result
overflow_sub-result c = omega (arith, size_ge c.requires, c.size.ensures)

pub overflow_cast-result : goal.overflow_cast-result
overflow_cast-result c = record { fits = omega (arith, size_le c.requires, c.size.ensures) }
