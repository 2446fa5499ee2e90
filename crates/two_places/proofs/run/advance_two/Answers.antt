-- The tests say that the two steps can be made at once; else one is made.
use native.Mathlib.Omega.{arith}
use Rattle.two_places.proofs.Turns.{can_turn, first_steps, room_between}
use Rattle.two_places.proofs.Runs.{advances_two}
use Rattle.two_places.proofs.run.advance_two.Goals as goal

pub both_steps-sizes-requires : goal.both_steps-sizes-requires
both_steps-sizes-requires c =
    let r = c.requires.i_bound in
    let t = c.turns.ensures c.if-not-turns.false in
    record {
      i_in_bounds = (omega (arith, r.0, r.1), r.2, r.3.first, r.3.second, room_between _ _ c.after_step-z.ensures t.0 r.3.low_room r.3.high_room);
      turns = can_turn c.find_factors-w.ensures t;
    }

pub returns : goal.returns
returns c =
    let r = c.requires.i_bound in
    let t = c.turns.ensures c.if-not-turns.false in
    let first = first_steps c.args.field.now.tables.field (omega (arith, r.0, r.1)) r.3.first r.3.second (can_turn c.find_factors-w.ensures t) _ _ c.after_step-z.ensures in
    advances_two r.1 r.0 t.0 first c.both_steps-sizes.ensures
