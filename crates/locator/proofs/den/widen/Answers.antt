-- The part that is cleared stands behind the first s coefficients.
use native.Mathlib.Omega.{arith}
use borrow.Author.Tests.{lt-ltb}
use Rattle.locator.proofs.Dens.{widened}
use Rattle.locator.proofs.den.widen.Goals as goal

pub returns : goal.returns
returns c =
    (rw (lt-ltb c.args.s c.args.wide c.if-wide-s.false), widened c.args.s c.args.wide c.args.row.now _ (omega arith) c.requires c.clear.ensures)
