-- The sums become the sixth array, behind those that they are computed from.
use mathlib.Core.Path.{sym, ◌∙◌}
use lib.Seq.{length-take-le}
use Rattle.code.specs.Shown.{shown}
use Rattle.picked_rows.proofs.Few.{few}
use Rattle.picked_rows.proofs.Rows.{put_sums}
use Rattle.picked_rows.proofs.sums.store_sums.Goals as goal

pub slice_bounds-sum_stored-end : goal.slice_bounds-sum_stored-end
slice_bounds-sum_stored-end c = sym (length-take-le _ _ (few c.args.code.now))

pub sum_stored-requires : goal.sum_stored-requires
sum_stored-requires c = record { stored = (c.requires.stored.0, c.requires.stored.1, length-take-le _ _ (few c.args.code.now)) }

pub returns : goal.returns
returns c =
    let size = c.sum_stored.auto.sums ∙ c.requires.stored.1 in
    (put_sums (shown c.args.code.now) size c.store.auto.work c.requires.stored.0 c.sum_stored.ensures c.store.ensures, rw size at c.store.ensures.spared)
