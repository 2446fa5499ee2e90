-- The table's entry.
use Rattle.field.proofs.Field.power.Goals as goal

pub returns : goal.returns
returns c = rw (c.args.self.now.tables.is_powers, c.from.ensures, c.from-2.ensures)
