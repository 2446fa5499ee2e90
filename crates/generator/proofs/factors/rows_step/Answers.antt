-- The rows, by cases, and then L and U.
use Rattle.generator.proofs.Adding.{rows_both}
use Rattle.generator.proofs.factors.rows_step.Goals as goal

pub returns : goal.returns
returns c =
    (c.pair_step.ensures.0, rows_both c.args.field.now.tables.field c.args.index.0 _ _ _ _ _ c.pair_step.ensures.1 c.raise_either.ensures)
