-- The calls in their order are Horner's rule.
use Rattle.field.proofs.Galois.{galois_field}
use Rattle.curve.proofs.Equation.{right_horner}
use Rattle.curve.proofs.right.Goals as goal

pub returns : goal.returns
returns c =
    rw (c.add-2.ensures, c.product-2.ensures, c.add-a.ensures, c.product.ensures, c.add.ensures)
    (right_horner (galois_field c.args.field.now.tables.field) c.args.c c.args.x)
