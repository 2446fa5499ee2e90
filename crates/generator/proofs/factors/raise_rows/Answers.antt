-- The multiples, what they leave for the row over the coordinate, and the new row.
use Rattle.generator.proofs.Turns.{rows_raised}
use Rattle.generator.proofs.factors.raise_rows.Goals as goal

pub returns : goal.returns
returns c =
    rows_raised c.args.field.now.number c.args.index.0 c.args.rc c.args.t c.args.xs.now c.args.a.now c.args.b.now c.requires.row_lists.0 c.inverse-own.ensures c.take_multiples-others.ensures.0 c.take_multiples-others.ensures.1 c.take_multiples-others.ensures.2
