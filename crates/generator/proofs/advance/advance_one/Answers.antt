-- One step is a way to go on.
use Rattle.generator.proofs.Progress.{advance_one}
use Rattle.generator.proofs.advance.advance_one.Goals as goal

pub returns : goal.returns
returns c =
    advance_one c.args.field.now.tables.field c.requires.index_lt_limit.1 c.requires.index_lt_limit.0 c.rows_step-sizes.ensures.0 c.rows_step-sizes.ensures.1
