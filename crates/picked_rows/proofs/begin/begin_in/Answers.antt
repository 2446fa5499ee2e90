-- The coordinates are arranged at the front of the working space, and the other arrays stored behind them when the indices are there too.
use mathlib.Core.Path.{sym, ◌∙◌}
use native.Mathlib.Omega.{arith}
use lib.ListN.{length, drop}
use Rattle.solving.proofs.Link.{accepted}
use Rattle.solving.proofs.Arranged.{places_in_lem, apart}
use Rattle.picked_rows.proofs.Stored.{back_size, front_spared, stored}
use Rattle.picked_rows.proofs.begin.begin_in.Goals as goal

pub index_points-requires : goal.index_points-requires
index_points-requires c =
    let work = c.args.work.now in
    let size = back_size (length c.args.code.now.xs.now) work c.factor_rows.new.px (omega (arith, c.requires.works.2)) c.factor_rows.ensures.points in (
      rw c.factor_rows.ensures.firsts (places_in_lem c.requires.works.0.placed),
      apart c.requires.works.0.placed,
      c.requires.works.0.full,
      c.factor_rows.ensures.seconds ∙ sym c.factor_rows.ensures.firsts,
      omega (arith, c.factor_rows.ensures.firsts, size, c.requires.works.2),
      omega (arith, c.factor_rows.ensures.firsts, (accepted c.requires.works.0.placed).n_most),
    )

pub store_four-requires : goal.store_four-requires
store_four-requires c =
    let work = c.args.work.now in
    let size = back_size (length c.args.code.now.xs.now) work c.factor_rows.new.px (omega (arith, c.requires.works.2)) c.factor_rows.ensures.points in (
      c.factor_rows.ensures.highs ∙ sym c.factor_rows.ensures.lows,
      c.index_points.auto.a ∙ c.factor_rows.ensures.firsts ∙ sym c.factor_rows.ensures.lows,
      c.index_points.auto.b ∙ c.factor_rows.ensures.seconds ∙ sym c.factor_rows.ensures.lows,
      omega (arith, c.factor_rows.ensures.lows, c.index_points.auto.work, size, c.requires.works.2),
      omega (arith, c.factor_rows.ensures.lows, (accepted c.requires.works.0.placed).n_most),
    )

pub returns : goal.returns
returns c =
    let n = length c.args.code.now.xs.now in
    let work = c.args.work.now in
    let size = back_size n work c.factor_rows.new.px (omega (arith, c.requires.works.2)) c.factor_rows.ensures.points in (
      stored c.factor_rows.ensures c.index_points.ensures.0 c.index_points.auto.a c.index_points.auto.b (drop n work)
          (omega (arith, c.store_four.auto.work, c.index_points.auto.work, size, c.requires.works.2)) c.index_points.ensures.1 c.store_four.ensures,
      front_spared n _ _ work c.factor_rows.new.px c.index_points.new.work c.store_four.new.work
          c.factor_rows.ensures.firsts c.factor_rows.ensures.lows (omega (arith, c.requires.works.2)) c.factor_rows.ensures.points c.index_points.ensures.2 c.store_four.ensures.spared,
    )
