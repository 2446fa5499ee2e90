-- The arrays of the working space are what the row is made of.
use mathlib.Core.Path.{sym, ◌∙◌, ap}
use Prim.Native.Nat.{◌*◌}
use native.Mathlib.Omega.{arith}
use lib.ListN.{length}
use lib.Seq.{length-take-le}
use Rattle.basics.proofs.Lists.{part_length}
use Rattle.code.specs.Shown.{shown}
use Rattle.picked_rows.proofs.Few.{few}
use Rattle.picked_rows.proofs.Rows.{held, held_ready, held_left, held_sums, ready_lows, ready_highs, ready_slots, ready_row, place_of}
use Rattle.picked_rows.proofs.row.picked_row.Goals as goal

pub slice_bounds-write_row-end-7 : goal.slice_bounds-write_row-end-7
slice_bounds-write_row-end-7 c = sym (length-take-le _ _ (few c.args.code.now))

pub write_row-requires : goal.write_row-requires
write_row-requires c =
    let code = c.args.code.now in
    let n = length code.xs.now in
    let work = c.args.work.now in
    let ready = held_ready (shown code) (held n work) c.requires.works.1.stored in
    let place = place_of c.requires.works.0 c.requires.works.3 c.chosen_place-place.ensures in record {
      slots = (
        ready_slots ready code.accepted (ap length (held_sums n work) ∙ part_length work (5 * n) n (omega (arith, c.requires.works.1.stored.room))) c.requires.works.2,
        ready_lows ready,
        ready_highs ready,
        length-take-le _ _ (few code) ∙ sym ready.factored.points,
        c.requires.works.3,
        place.0,
        omega (arith, place.1, ready.factored.points),
        held_left (shown code) (held n work) (held_sums n work) c.requires.works.1.left,
      );
    }

pub returns : goal.returns
returns c =
    let code = c.args.code.now in
    let ready = held_ready (shown code) (held (length code.xs.now) c.args.work.now) c.requires.works.1.stored in
    ready_row ready c.requires.works.3 c.chosen_place-place.ensures c.write_row.ensures
