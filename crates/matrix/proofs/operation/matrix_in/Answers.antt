-- L of all but the last point decides whether the places work, and then the rows are written.
use mathlib.Core.Path.{sym, ◌∙◌, ap}
use Prim.Native.Nat.{◌-◌}
use mathlib.Core.Bool.{not}
use native.Mathlib.Omega.{arith}
use Rattle.basics.proofs.Outcomes.{pass, refuse, accept_pair}
use Rattle.solving.proofs.Link.{accepted}
use Rattle.values.proofs.Runs.{fits}
use Rattle.solving.proofs.Arranged.{places_in_lem, apart}
use Rattle.matrix.proofs.Theory.{arranged_first, decides, completes}
use Rattle.matrix.proofs.operation.matrix_in.Goals as goal

pub overflow_sub-last : goal.overflow_sub-last
overflow_sub-last c = omega (arith, (accepted c.requires.placed.0).k_least)

pub zero_chosen-requires : goal.zero_chosen-requires
zero_chosen-requires c =
    let a = accepted c.requires.placed.0 in
    (omega (arith, a.k_least, a.k_most, c.requires.placed.2.lows, c.begin_rows-z.auto.l), omega (arith, a.k_least, a.k_most, c.requires.placed.2.highs, c.begin_rows-z.auto.u))

pub returns-then-zero_chosen : goal.returns-then-zero_chosen
returns-then-zero_chosen c =
    refuse _ (decides c.requires.placed.0 c.requires.placed.1 c.begin_rows-z.ensures c.zero_chosen.ensures ∙ ap not c.if-zero_chosen.true)

pub rows_turn-requires : goal.rows_turn-requires
rows_turn-requires c =
    let a = accepted c.requires.placed.0 in
    record {
      fits = (
        fits (c.begin_rows-z.auto.l ∙ c.requires.placed.2.lows ∙ sym c.begin_rows-z.ensures.firsts.size) (c.begin_rows-z.auto.u ∙ c.requires.placed.2.highs ∙ sym c.begin_rows-z.ensures.firsts.size) ((arranged_first c.requires.placed.0 c.requires.placed.1 c.begin_rows-z.ensures.firsts c.begin_rows-z.ensures.seconds).small (c.args.code.now.k - 1) (omega (arith, a.k_least))) c.begin_rows-z.ensures.shown,
        record { points = omega (arith, c.begin_rows-z.ensures.firsts.size, a.k_least, a.k_most); firsts = omega (arith, c.begin_rows-z.auto.a, c.requires.placed.2.firsts, a.k_least, a.k_most); seconds = omega (arith, c.begin_rows-z.auto.b, c.requires.placed.2.seconds, a.k_least, a.k_most) },
        omega (arith, c.begin_rows-z.ensures.firsts.size, a.n_most),
      );
    }

pub write_rows-requires : goal.write_rows-requires
write_rows-requires c =
    let a = accepted c.requires.placed.0 in
    record {
      written = (
        record {
          points = omega (arith, c.begin_rows-z.ensures.firsts.size, a.k_most);
          lows = c.rows_turn.auto.l ∙ c.begin_rows-z.auto.l ∙ c.requires.placed.2.lows ∙ sym c.begin_rows-z.ensures.firsts.size;
          highs = c.rows_turn.auto.u ∙ c.begin_rows-z.auto.u ∙ c.requires.placed.2.highs ∙ sym c.begin_rows-z.ensures.firsts.size;
          firsts = c.rows_turn.auto.a ∙ c.begin_rows-z.auto.a ∙ c.requires.placed.2.firsts ∙ sym c.begin_rows-z.ensures.firsts.size;
          seconds = c.rows_turn.auto.b ∙ c.begin_rows-z.auto.b ∙ c.requires.placed.2.seconds ∙ sym c.begin_rows-z.ensures.firsts.size;
          most = omega (arith, c.begin_rows-z.ensures.firsts.size, a.n_most);
          places = rw c.begin_rows-z.ensures.firsts.size (places_in_lem c.requires.placed.0);
          apart = apart c.requires.placed.0;
          full = c.requires.placed.1;
          room = rw c.begin_rows-z.ensures.firsts.size c.requires.placed.3;
        },
        c.requires.placed.4,
      );
    }

pub returns : goal.returns
returns c =
    let works = decides c.requires.placed.0 c.requires.placed.1 c.begin_rows-z.ensures c.zero_chosen.ensures ∙ ap not c.if-zero_chosen.false in
    pass _ works (accept_pair (c.write_rows.ensures.0 ∙ completes c.requires.placed.0 c.requires.placed.1 c.begin_rows-z.ensures works c.rows_turn.ensures.1) c.write_rows.ensures.1)
