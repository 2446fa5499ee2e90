-- The parts of the arrays that are as long as there are points.
use mathlib.Core.Path.{refl, sym}
use lib.Seq.{length-take-le}
use Rattle.picked_rows.proofs.Few.{few}
use Rattle.picked_rows.proofs.begin.begin.Goals as goal

pub slice_bounds-begin_in-end : goal.slice_bounds-begin_in-end
slice_bounds-begin_in-end c = sym (length-take-le _ _ (few c.args.code.now))

pub slice_bounds-begin_in-end-2 : goal.slice_bounds-begin_in-end-2
slice_bounds-begin_in-end-2 c = sym (length-take-le _ _ (few c.args.code.now))

pub slice_bounds-begin_in-end-3 : goal.slice_bounds-begin_in-end-3
slice_bounds-begin_in-end-3 c = sym (length-take-le _ _ (few c.args.code.now))

pub begin_in-requires : goal.begin_in-requires
begin_in-requires c =
    let part = length-take-le _ _ (few c.args.code.now) in
    record { works = (c.requires.works.0, record { points = refl; lows = part; highs = part; firsts = part; seconds = c.requires.works.1 }, c.requires.works.2) }
