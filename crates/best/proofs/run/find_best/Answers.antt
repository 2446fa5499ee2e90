-- The parts of the array are as long as there are points; the word of the best change is the best word.
use mathlib.Core.Path.{sym, ◌∙◌}
use lib.ListN.{length, drop, replicate}
use lib.Seq.{length-take-le}
use Rattle.picked_rows.proofs.Few.{few}
use Rattle.best.proofs.Words.{found_best}
use Rattle.best.proofs.Stores.{lent_again}
use Rattle.best.proofs.run.find_best.Goals as goal

pub slice_bounds-search-end : goal.slice_bounds-search-end
slice_bounds-search-end c = sym (length-take-le _ _ (few c.args.code.now))

pub search-found-requires : goal.search-found-requires
search-found-requires c = record { prepared = (c.requires.prepared.0, c.requires.prepared.1, length-take-le _ _ (few c.args.code.now), c.requires.prepared.2) }

pub slice_bounds-row-end-2 : goal.slice_bounds-row-end-2
slice_bounds-row-end-2 c =
    let code = c.args.code.now in
    lent_again c.search-found.new.early_row (drop (length code.xs.now) (replicate 288 0)) (c.search-found.auto.early_row ∙ length-take-le _ _ (few code))

pub slice_bounds-write_word-end : goal.slice_bounds-write_word-end
slice_bounds-write_word-end c =
    let code = c.args.code.now in
    sym (length-take-le _ _ (lent_again c.search-found.new.early_row (drop (length code.xs.now) (replicate 288 0)) (c.search-found.auto.early_row ∙ length-take-le _ _ (few code))))

pub write_word-requires : goal.write_word-requires
write_word-requires c =
    let code = c.args.code.now in
    record {
      prepared = (
        c.requires.prepared.0,
        c.search-found.ensures.is_try,
        length-take-le _ _ (lent_again c.search-found.new.early_row (drop (length code.xs.now) (replicate 288 0)) (c.search-found.auto.early_row ∙ length-take-le _ _ (few code))),
        c.search-found.auto.late_row ∙ c.requires.prepared.1,
      );
    }

pub returns : goal.returns
returns c = found_best c.search-found.ensures c.write_word.ensures
