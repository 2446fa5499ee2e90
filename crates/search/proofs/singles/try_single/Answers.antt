-- A place that has enough trust is left out, and else its row is written and all its changes tried.
use native.Mathlib.Omega.{arith}
use Rattle.field.proofs.Galois.{size_ge}
use Rattle.picked_rows.proofs.Difference.{given_works}
use Rattle.search.proofs.Blocks.{runs_single}
use Rattle.search.proofs.Settings.{places_many, trust_places, base_part, pair_rows, single_past}
use Rattle.search.proofs.singles.try_single.Goals as goal

pub trust_of-requires : goal.trust_of-requires
trust_of-requires c = let g = c.requires.prepared.0.given in (trust_places g, omega (arith, places_many g))

pub returns-then-found-trust_of : goal.returns-then-found-trust_of
returns-then-found-trust_of c =
    single_past c.requires.prepared.0.given c.args.left c.args.index.0 c.requires.prepared.3 c.requires.prepared.1
    (omega (arith, c.if-found-trust_of.true, c.trust_of.ensures.0))

pub picked_row-requires : goal.picked_row-requires
picked_row-requires c = record { works = (given_works c.requires.prepared.0.given, c.requires.prepared.0.summed, c.requires.prepared.2, c.requires.prepared.3) }

pub try_block-requires : goal.try_block-requires
try_block-requires c =
    let p = c.requires.prepared.0 in
    record { rows = (pair_rows p.given c.args.index.0 c.args.index.0 (base_part p) c.picked_row.ensures c.picked_row.ensures, omega (arith, size_ge c.args.code.now.field.now.tables.field)) }

pub returns : goal.returns
returns c =
    let p = c.requires.prepared.0 in
    runs_single p.given (base_part p) c.args.index.0 c.picked_row.ensures c.requires.prepared.3 c.args.left c.requires.prepared.1 c.try_block.ensures
