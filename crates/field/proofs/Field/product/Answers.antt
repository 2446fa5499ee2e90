-- The exponents add up.
use mathlib.Core.Path.{◌∙◌}
use Rattle.field.proofs.Lookup.{is_log, log_le, product_sum}
use Rattle.field.proofs.Field.product.Goals as goal

pub power-requires : goal.power-requires
power-requires c =
    (rw c.logarithm.ensures (log_le c.args.self.now.tables.field (is_log c.args.self.now.tables.field c.args.a c.ranges.a.fits)), rw c.logarithm-2.ensures (log_le c.args.self.now.tables.field (is_log c.args.self.now.tables.field c.args.b c.ranges.b.fits)))

pub returns : goal.returns
returns c =
    c.power.ensures ∙ rw (c.logarithm.ensures, c.logarithm-2.ensures) (product_sum c.args.self.now.tables.field c.args.a c.args.b c.ranges.a.fits c.ranges.b.fits)
