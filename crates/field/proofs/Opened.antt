-- The field of a number: the test of the number passes.
use Prim.Native.Nat.{ℕ}
use mathlib.Core.Bool.{true}
use mathlib.Core.Path.{◌≡◌}
use Rattle.field.specs.declared.Field.{Field}
use Rattle.field.specs.Galois.{is_field}
use Rattle.field.proofs.Galois.{field_true}

pub number_passed : (f : Field) {m : ℕ} → f.number ≡ m → is_field m ≡ true
number_passed f e = rw (← e) (field_true f.tables.field)
