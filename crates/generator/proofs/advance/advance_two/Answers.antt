-- The tests say that the two steps can be made at once; else one is made.
use mathlib.Core.Path.{refl}
use native.Mathlib.Omega.{arith}
use Rattle.two_places.proofs.Turns.{can_turn, first_steps, room_between}
use Rattle.generator.proofs.Turns.{rows_sized}
use Rattle.generator.proofs.Progress.{advance_two}
use Rattle.generator.proofs.advance.advance_two.Goals as goal

pub both_rows-sizes-requires : goal.both_rows-sizes-requires
both_rows-sizes-requires c =
    let r = c.requires.index_bound in
    let t = c.turns.ensures c.if-not-turns.false in
    record {
      row_lists = (rows_sized (omega (arith, r.0)) refl refl r.3, r.4, r.2.first, r.2.second, room_between _ _ c.after_step-z.ensures t.0 r.2.low_room r.2.high_room);
      turns = can_turn c.find_factors-w.ensures t;
    }

pub returns : goal.returns
returns c =
    let r = c.requires.index_bound in
    let t = c.turns.ensures c.if-not-turns.false in
    let first = first_steps c.args.field.now.tables.field (omega (arith, r.0, r.1)) r.2.first r.2.second (can_turn c.find_factors-w.ensures t) _ _ c.after_step-z.ensures in
    advance_two c.args.field.now.tables.field r.1 r.0 t.0 first c.both_rows-sizes.ensures
