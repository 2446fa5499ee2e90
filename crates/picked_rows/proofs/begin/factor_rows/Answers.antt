-- The places work, so that the last point is added as the others were.
use mathlib.Core.Path.{sym, ◌∙◌}
use Prim.Native.Nat.{◌-◌}
use native.Mathlib.Omega.{arith}
use Rattle.solving.proofs.Link.{accepted}
use Rattle.values.proofs.Runs.{fits}
use Rattle.matrix.proofs.Theory.{arranged_first, completed}
use Rattle.picked_rows.proofs.begin.factor_rows.Goals as goal

pub overflow_sub-last : goal.overflow_sub-last
overflow_sub-last c = omega (arith, (accepted c.requires.works.0.placed).k_least)

pub rows_turn-requires : goal.rows_turn-requires
rows_turn-requires c =
    let a = accepted c.requires.works.0.placed in
    let sized = c.requires.works.1 in
    let begun = c.begin_rows-z.ensures in
    record {
      fits = (
        fits (c.begin_rows-z.auto.l ∙ sized.lows ∙ sym begun.firsts.size) (c.begin_rows-z.auto.u ∙ sized.highs ∙ sym begun.firsts.size)
            ((arranged_first c.requires.works.0.placed c.requires.works.0.full begun.firsts begun.seconds).small (c.args.code.now.k - 1) (omega (arith, a.k_least))) begun.shown,
        record {
          points = omega (arith, begun.firsts.size, a.k_least, a.k_most);
          firsts = omega (arith, c.begin_rows-z.auto.a, sized.firsts, a.k_least, a.k_most);
          seconds = omega (arith, c.begin_rows-z.auto.b, sized.seconds, a.k_least, a.k_most);
        },
        omega (arith, begun.firsts.size, a.n_most),
      );
    }

pub returns : goal.returns
returns c =
    let sized = c.requires.works.1 in
    record {
      points = c.begin_rows-z.auto.px ∙ sized.points;
      lows = c.rows_turn.auto.l ∙ c.begin_rows-z.auto.l ∙ sized.lows;
      highs = c.rows_turn.auto.u ∙ c.begin_rows-z.auto.u ∙ sized.highs;
      firsts = c.rows_turn.auto.a ∙ c.begin_rows-z.auto.a ∙ sized.firsts;
      seconds = c.rows_turn.auto.b ∙ c.begin_rows-z.auto.b ∙ sized.seconds;
      rows = completed c.requires.works.0.placed c.requires.works.0.full c.begin_rows-z.ensures c.requires.works.0.works c.rows_turn.ensures.1;
    }
