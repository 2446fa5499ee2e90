-- The difference begins as the received word.
use mathlib.Core.Path.{sym, ◌∙◌}
use lib.Seq.{length-take-le}
use Rattle.basics.proofs.Lists.{copied}
use Rattle.picked_rows.proofs.Few.{few}
use Rattle.picked_rows.proofs.base.find_difference.Goals as goal

pub slice_bounds-add_rows-end : goal.slice_bounds-add_rows-end
slice_bounds-add_rows-end c = sym (length-take-le _ _ (few c.args.code.now))

pub add_rows-requires : goal.add_rows-requires
add_rows-requires c =
    record { given = (c.requires.given.0, c.requires.given.1, length-take-le _ _ (few c.args.code.now), copied c.requires.given.0.size (c.copy.auto.out ∙ c.requires.given.2) c.copy.ensures) }
