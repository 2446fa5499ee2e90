-- The marks are those of the free points, and so are the indices.
use native.Mathlib.Omega.{arith}
use lib.ListN.{length}
use Rattle.basics.proofs.Lists.{length_table}
use Rattle.arrangement.specs.Arranged.{free_at}
use Rattle.matrix.proofs.write.index_rest.Goals as goal

pub mark-requires : goal.mark-requires
mark-requires c =
    (c.requires.0, omega (arith, c.requires.1.most, length_table (free_at c.args.places.now) (length c.args.marks.now)))
