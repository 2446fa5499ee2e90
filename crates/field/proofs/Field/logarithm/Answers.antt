-- The table's entry.
use Rattle.field.proofs.Lookup.{log_entry}
use Rattle.field.proofs.Field.logarithm.Goals as goal

pub returns : goal.returns
returns c =
    rw (c.args.self.now.tables.is_logs, c.from.ensures) (log_entry _ c.args.a c.ranges.a.fits)
