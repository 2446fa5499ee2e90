-- The trace and the right side, and then the curve's equation as a quadratic in Y.
use Rattle.field.proofs.Galois.{galois_field}
use Rattle.curve.proofs.Equation.{on_product}
use Rattle.curve.proofs.on_curve.Goals as goal

pub returns : goal.returns
returns c =
    rw (c.solves.ensures, c.right-v.ensures, c.trace-t.ensures)
    (on_product (galois_field c.args.field.now.tables.field) c.args.c c.args.p.x c.args.p.y)
