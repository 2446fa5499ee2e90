-- By the law of the first rows.
use Rattle.locator.proofs.First.{begun}
use Rattle.locator.proofs.begin.begin.Goals as goal

pub returns : goal.returns
returns c =
    begun c.args.field.now.tables.field c.requires.laid.0 c.requires.laid.1 c.requires.laid.2 c.begin_defects.ensures c.begin_dens.ensures c.first_heads.ensures
