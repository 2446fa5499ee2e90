-- The part of the list that is as long as there are points.
use mathlib.Core.Path.{sym}
use lib.Seq.{length-take-le}
use Rattle.picked_rows.proofs.Few.{few}
use Rattle.best.proofs.run.best_run.Goals as goal

pub slice_bounds-best_in-end : goal.slice_bounds-best_in-end
slice_bounds-best_in-end c = sym (length-take-le _ _ (few c.args.code.now))

pub best_in-requires : goal.best_in-requires
best_in-requires c =
    record { given = (c.requires.given.0, length-take-le _ _ (few c.args.code.now), c.requires.given.1, c.requires.given.2, c.requires.given.3, c.requires.given.4, c.requires.given.5) }
