-- All places are ranked, Pick keeps k of them, and what the tries need is prepared at these.
use mathlib.Core.Path.{sym}
use native.Mathlib.Omega.{arith}
use lib.ListN.{length}
use lib.Seq.{length-take-le}
use Rattle.picked_rows.proofs.Few.{few}
use Rattle.best.proofs.Beginning.{ranked_placed, ranked_more, ranked_given, room_spared}
use Rattle.best.proofs.run.begin_best.Goals as goal

pub pick_ranked-requires : goal.pick_ranked-requires
pick_ranked-requires c =
    record { placed = (ranked_placed c.requires.given.0 c.rank.ensures, ranked_more c.requires.given.0 c.rank.ensures) }

pub slice_bounds-prepare-end : goal.slice_bounds-prepare-end
slice_bounds-prepare-end c = omega (arith, c.pick_ranked.auto.ranked, ranked_more c.requires.given.0 c.rank.ensures)

pub slice_bounds-prepare-end-2 : goal.slice_bounds-prepare-end-2
slice_bounds-prepare-end-2 c = sym (length-take-le _ _ (omega (arith, c.pick_ranked.auto.ranked, ranked_more c.requires.given.0 c.rank.ensures)))

pub prepare-requires : goal.prepare-requires
prepare-requires c =
    record { given = (ranked_given c.requires.given.0 c.rank.ensures c.pick_ranked.ensures, c.requires.given.2, omega (arith, few c.args.code.now, c.requires.given.3)) }

pub returns : goal.returns
returns c =
    let code = c.args.code.now in
    (c.prepare.ensures.0, room_spared (length code.xs.now) c.args.work.now c.prepare.new.work (few code) c.prepare.ensures.1)
