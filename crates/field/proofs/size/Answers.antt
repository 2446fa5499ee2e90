-- The shift loses nothing, since a width is at most 8.
use native.Mathlib.Nat.{mod-eq_of_lt, one-mul}
use native.Mathlib.Omega.{arith}
use Rattle.field.specs.Galois.{size}
use Rattle.field.proofs.Galois.{row_facts, size_le}
use Rattle.field.proofs.size.Goals as goal

pub overflow_shl-result : goal.overflow_shl-result
overflow_shl-result c = omega (arith, (row_facts c.requires).narrow, c.width.ensures)

pub returns : goal.returns
unfolding size
returns c = rw (c.width.ensures, one-mul) (mod-eq_of_lt (omega (arith, size_le c.requires)))
