-- The rows by the first point, by the second, and then L and U by both.
use Prim.Native.Nat.{◌+◌, ◌<◌}
use lib.ListN.{length}
use native.Mathlib.Omega.{arith}
use Rattle.generator.proofs.Progress.{first_rows_lem, second_rows}
use Rattle.generator.proofs.advance.both_rows.Goals as goal

pub returns : goal.returns
returns c =
    let inside : c.args.index.0 + 1 < length c.args.xs.now = omega (arith, c.requires.row_lists.0.points) in
    record {
      a₁ = _;
      b₁ = _;
      pair = c.both_steps.ensures;
      first = first_rows_lem c.args.field.now.tables.field inside c.requires.row_lists.2 c.requires.row_lists.3 c.requires.turns c.raise_rows.ensures;
      second = second_rows c.args.field.now.tables.field inside c.requires.row_lists.2 c.requires.row_lists.3 c.requires.turns c.both_steps.ensures.passes c.raise_rows-2.ensures;
    }
