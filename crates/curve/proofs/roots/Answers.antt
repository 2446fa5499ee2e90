-- The table is empty at first.
use Rattle.curve.proofs.Quadratic.{inverts_none}
use Rattle.curve.proofs.roots.Goals as goal

pub fill_roots-requires : goal.fill_roots-requires
fill_roots-requires c = inverts_none _
