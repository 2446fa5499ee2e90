-- A pair whose places have enough trust is left out, and else its rows are written and all its amounts tried.
use mathlib.Core.Path.{refl}
use native.Mathlib.Omega.{arith}
use Rattle.code.specs.Shown.{shown}
use Rattle.picked_rows.proofs.Difference.{given_works}
use Rattle.search.proofs.Settings.{places_many, trust_places, base_part, pair_rows, pair_past}
use Rattle.search.proofs.pairs.try_pair.Goals as goal

pub trust_of-requires : goal.trust_of-requires
trust_of-requires c = let g = c.requires.prepared.0.given in (trust_places g, omega (arith, places_many g))

pub trust_of-requires-2 : goal.trust_of-requires-2
trust_of-requires-2 c = let g = c.requires.prepared.0.given in (trust_places g, omega (arith, places_many g))

pub returns-then-found-trust_of : goal.returns-then-found-trust_of
returns-then-found-trust_of c =
    pair_past c.requires.prepared.0.given c.args.left c.args.late.0 c.args.early.0 c.requires.prepared.4 c.requires.prepared.5 c.requires.prepared.1
    (omega (arith, c.if-found-trust_of.true, c.trust_of.ensures.0, c.trust_of-2.ensures.0))

pub picked_row-requires : goal.picked_row-requires
picked_row-requires c =
    record { works = (given_works c.requires.prepared.0.given, c.requires.prepared.0.summed, c.requires.prepared.3, omega arith) }

pub try_amounts-requires : goal.try_amounts-requires
try_amounts-requires c =
    let p = c.requires.prepared.0 in
    record { rows = pair_rows p.given c.args.late.0 c.args.early.0 (base_part p) c.requires.prepared.2 c.picked_row.ensures }

pub returns : goal.returns
returns c =
    let p = c.requires.prepared.0 in
    c.try_amounts.ensures (shown c.args.code.now) c.args.received.now c.args.places.now refl (record { given = p.given; is = base_part p })
    c.requires.prepared.2 c.picked_row.ensures c.requires.prepared.4 c.requires.prepared.5 c.requires.prepared.1
