use native.Mathlib.Omega.{arith}
use Rattle.field.proofs.Galois.{size_le}
use Rattle.curve.proofs.Quadratic.{found_more}
use Rattle.curve.proofs.fill_found.Goals as goal

pub loop-x-preserved : goal.loop-x-preserved
loop-x-preserved c =
    found_more _ _ (omega (arith, size_le c.args.field.now.tables.field)) c.loop-x.invariant c.find_y.ensures
