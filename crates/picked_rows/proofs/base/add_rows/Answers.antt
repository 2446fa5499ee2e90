use mathlib.Core.Path.{ap}
use native.Mathlib.Omega.{arith}
use lib.ListN.{get_or}
use Rattle.picked_rows.proofs.Rows.{place_of}
use Rattle.picked_rows.proofs.Difference.{given_works, added_none, added_row, added_all}
use Rattle.picked_rows.proofs.base.add_rows.Goals as goal

pub loop-i-init : goal.loop-i-init
loop-i-init c = added_none c.requires.given.0 c.requires.given.3

pub chosen_place-place-requires : goal.chosen_place-place-requires
chosen_place-place-requires c = omega (arith, (given_works c.requires.given.0).full)

pub index_of-requires : goal.index_of-requires
index_of-requires c = (place_of (given_works c.requires.given.0) c.loop-i-test.true c.chosen_place-place.ensures).0

pub bounds-received-index_of : goal.bounds-received-index_of
bounds-received-index_of c =
    let place = place_of (given_works c.requires.given.0) c.loop-i-test.true c.chosen_place-place.ensures in
    omega (arith, place.0, place.1, c.index_of.ensures, c.requires.given.0.size)

pub picked_row-requires : goal.picked_row-requires
picked_row-requires c = record { works = (given_works c.requires.given.0, c.requires.given.1, omega arith, c.loop-i-test.true) }

pub loop-i-preserved : goal.loop-i-preserved
loop-i-preserved c =
    added_row c.requires.given.0 c.loop-i.i c.loop-i-test.true c.chosen_place-place.ensures (ap (λ x. get_or c.args.received.now x 0) c.index_of.ensures)
    c.picked_row.ensures c.add_scaled.ensures c.loop-i.invariant

pub returns : goal.returns
returns c = added_all c.requires.given.0 (omega arith) c.loop-i.invariant
