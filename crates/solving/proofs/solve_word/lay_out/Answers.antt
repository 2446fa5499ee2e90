-- The points are arranged by the marks in f.
use mathlib.Core.Path.{◌≡◌, sym, ◌∙◌, ap}
use native.Mathlib.Omega.{arith}
use lib.ListN.{length}
use Rattle.basics.specs.Lists.{table}
use Rattle.arrangement.specs.Arranged.{free_at}
use Rattle.values.specs.Values.{one}
use Rattle.solving.proofs.Link.{accepted}
use Rattle.solving.proofs.Arranged.{places_in_lem, apart}
use Rattle.solving.proofs.solve_word.lay_out.Goals as goal

pub mark-requires : goal.mark-requires
mark-requires c = (rw c.requires.px_len.3 (places_in_lem c.requires.placed), omega (arith, c.requires.px_len.3, (accepted c.requires.placed).n_most))

pub arrange-requires : goal.arrange-requires
arrange-requires c =
    record { places = places_in_lem c.requires.placed; apart = apart c.requires.placed; frees = c.mark.ensures ∙ ap (table (free_at c.args.places.now)) c.requires.px_len.3; room = c.requires.px_len.0; few = (accepted c.requires.placed).n_most }

pub arrange-requires-2 : goal.arrange-requires-2
arrange-requires-2 c =
    let same : length c.args.code.now.xs.now ≡ length c.args.code.now.ys.now = (accepted c.requires.placed).lengths in
    record { places = rw (← same) (places_in_lem c.requires.placed); apart = apart c.requires.placed; frees = c.mark.ensures ∙ ap (table (free_at c.args.places.now)) (c.requires.px_len.3 ∙ same); room = c.requires.px_len.2 ∙ same; few = omega (arith, (accepted c.requires.placed).n_most) }

pub returns : goal.returns
returns c = (
  record { firsts = c.arrange.ensures; seconds = c.arrange-2.ensures; ones = c.fill_ones.ensures ∙ ap (table one) (c.requires.px_len.1 ∙ (accepted c.requires.placed).lengths ∙ sym c.arrange-2.ensures.size) },
  c.mark.ensures ∙ ap (table (free_at c.args.places.now)) c.requires.px_len.3,
)
