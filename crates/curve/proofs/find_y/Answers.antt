-- The quadratic's solution by the table of roots.
use Rattle.curve.proofs.Quadratic.{found}
use Rattle.curve.proofs.find_y.Goals as goal

pub returns : goal.returns
returns c =
    found c.args.field.now.tables.field c.args.c c.requires.1 c.args.x c.requires.0 c.trace-t.ensures c.right-v.ensures c.root.ensures c.product.ensures
