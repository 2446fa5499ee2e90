use mathlib.Core.Path.{◌≡◌}
use native.Mathlib.Omega.{arith}
use Rattle.field.specs.Galois.{size}
use Rattle.elliptic.specs.Curve.{point}
use Rattle.curve.proofs.Equation.{solution, column_as}
use Rattle.curve.proofs.Listing.{turn_yes, turn_no}
use Rattle.curve.proofs.append_column.Goals.{then-solves, else-solves}
use Rattle.curve.proofs.append_column.Goals as goal

pub loop-y-preserved : goal.loop-y-preserved
loop-y-preserved c =
    elim c.if-solves.branch [
      | then-solves w ↦ rw (w.xs-is, w.ys-is, w.count-is) (turn_yes (solution _ _ _) (point c.args.x) c.loop-y.y c.loop-y.invariant c.solves.ensures w.if-solves.true w.append-count.ensures)
      | else-solves w ↦ rw (w.xs-is, w.ys-is, w.count-is) (turn_no (solution _ _ _) (point c.args.x) c.loop-y.y c.loop-y.invariant c.solves.ensures w.if-solves.false)
    ]

pub returns : goal.returns
returns c =
    let whole : c.loop-y.y ≡ size c.args.field.now.number = omega arith in
    rw (← column_as c.args.field.now.tables.field c.args.c c.args.x (size c.args.field.now.number), ← c.right-v.ensures, ← c.trace-t.ensures, ← whole) c.loop-y.invariant
