-- The table's entry.
use Rattle.field.proofs.Lookup.{neg_entry}
use Rattle.field.proofs.Field.neg_logarithm.Goals as goal

pub returns : goal.returns
returns c =
    rw (c.args.self.now.tables.is_logs, c.from.ensures) (neg_entry _ c.args.a c.ranges.a.fits)
