-- The points are arranged by the marks in a, and the rows of all chosen ones but the last computed.
use mathlib.Core.Path.{◌≡◌, sym, ◌∙◌, ap}
use native.Mathlib.Omega.{arith}
use lib.ListN.{length}
use Rattle.basics.specs.Lists.{table}
use Rattle.solving.proofs.Link.{accepted}
use Rattle.arrangement.specs.Arranged.{free_at}
use Rattle.solving.proofs.Arranged.{places_in_lem, apart, arranged_coordinates}
use Rattle.matrix.proofs.Theory.{arranged_first, able}
use Rattle.matrix.proofs.write.begin_rows.Goals as goal

pub mark-requires : goal.mark-requires
mark-requires c = (rw c.requires.placed.2.firsts (places_in_lem c.requires.placed.0), omega (arith, c.requires.placed.2.firsts, (accepted c.requires.placed.0).n_most))

pub arrange-requires : goal.arrange-requires
arrange-requires c =
    record { places = places_in_lem c.requires.placed.0; apart = apart c.requires.placed.0; frees = c.mark.ensures ∙ ap (table (free_at c.args.places.now)) c.requires.placed.2.firsts; room = c.requires.placed.2.points; few = (accepted c.requires.placed.0).n_most }

pub arrange-requires-2 : goal.arrange-requires-2
arrange-requires-2 c =
    let same : length c.args.code.now.xs.now ≡ length c.args.code.now.ys.now = (accepted c.requires.placed.0).lengths in
    record { places = rw (← same) (places_in_lem c.requires.placed.0); apart = apart c.requires.placed.0; frees = c.mark.ensures ∙ ap (table (free_at c.args.places.now)) (c.requires.placed.2.firsts ∙ same); room = c.requires.placed.2.highs ∙ same; few = omega (arith, (accepted c.requires.placed.0).n_most) }

pub run_rows-requires : goal.run_rows-requires
run_rows-requires c =
    let a = accepted c.requires.placed.0 in
    record {
      coordinates = (
        arranged_coordinates c.requires.placed.0 c.arrange.ensures c.arrange-2.ensures,
        c.requires.placed.2.lows ∙ sym c.arrange.ensures.size,
        record { points = omega (arith, c.arrange.ensures.size, a.k_most); firsts = omega (arith, c.mark.auto.free, c.requires.placed.2.firsts, a.k_most); seconds = omega (arith, c.requires.placed.2.seconds, a.k_most) },
        a.k_least,
        omega (arith, c.arrange.ensures.size, a.n_most),
      );
      runs_first = (arranged_first c.requires.placed.0 c.requires.placed.1 c.arrange.ensures c.arrange-2.ensures, able c.requires.placed.0 c.requires.placed.1 c.arrange.ensures c.arrange-2.ensures);
    }
