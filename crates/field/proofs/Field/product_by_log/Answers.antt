-- The exponents add up.
use mathlib.Core.Path.{◌∙◌}
use Rattle.field.proofs.Lookup.{is_log, log_le, by_sum}
use Rattle.field.proofs.Field.product_by_log.Goals as goal

pub power-requires : goal.power-requires
power-requires c =
    (log_le c.args.self.now.tables.field c.requires, rw c.logarithm.ensures (log_le c.args.self.now.tables.field (is_log c.args.self.now.tables.field c.args.b c.ranges.b.fits)))

pub returns : goal.returns
returns c =
    c.power.ensures ∙ rw c.logarithm.ensures (by_sum c.args.self.now.tables.field c.args.l c.args.b c.ranges.b.fits c.requires)
