-- The arrays of the working space are what the rows are made of.
use lib.ListN.{length}
use Rattle.code.specs.Shown.{shown}
use Rattle.picked_rows.proofs.Rows.{held, held_ready, left_held, ready_lows, ready_highs, ready_slots}
use Rattle.picked_rows.proofs.sums.sum_stored.Goals as goal

pub sum_rows-requires : goal.sum_rows-requires
sum_rows-requires c =
    let code = c.args.code.now in
    let ready = held_ready (shown code) (held (length code.xs.now) c.args.work.now) c.requires.stored.0 in
    record { slots = (ready_slots ready code.accepted c.requires.stored.1 c.requires.stored.2, ready_lows ready, ready_highs ready) }

pub returns : goal.returns
returns c =
    let code = c.args.code.now in
    left_held (shown code) (held (length code.xs.now) c.args.work.now) c.sum_rows.new.sums c.sum_rows.ensures
