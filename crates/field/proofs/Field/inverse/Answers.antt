-- The exponents of an element and of its inverse add up to the period.
use mathlib.Core.Path.{◌∙◌}
use native.Mathlib.Omega.{arith}
use native.Mathlib.Nat.{zero-add}
use Rattle.field.proofs.Lookup.{neg_le, inverse_power}
use Rattle.field.proofs.Field.inverse.Goals as goal

pub power-requires : goal.power-requires
power-requires c =
    (omega arith, rw c.neg_logarithm.ensures (neg_le c.args.self.now.tables.field c.args.a c.ranges.a.fits))

pub returns : goal.returns
returns c =
    c.power.ensures ∙ rw (zero-add, c.neg_logarithm.ensures) (inverse_power c.args.self.now.tables.field c.args.a c.ranges.a.fits)
