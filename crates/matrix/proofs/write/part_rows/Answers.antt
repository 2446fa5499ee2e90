use mathlib.Core.Path.{◌≡◌, ◌∙◌}
use lib.ListN.{length}
use Rattle.matrix.proofs.Joined.{row_room, lent_size}
use Rattle.matrix.proofs.Marks.{parts_none, parts_turn}
use Rattle.matrix.proofs.write.part_rows.Goals as goal

pub loop-i-init : goal.loop-i-init
loop-i-init c =
    parts_none c.args.field.now.number c.args.k c.args.px.now c.args.l.now c.args.u.now c.args.a.now c.args.b.now c.requires.slots.4 c.requires.slots.5

pub loop-i-preserved : goal.loop-i-preserved
loop-i-preserved c =
    let room = row_room c.loop-i.out (c.loop-i.auto.out ∙ c.requires.slots.3) c.loop-i-test.true c.requires.slots.0.points c.requires.slots.0.most in
    let size : length c.fill_row.new.row ≡ length c.args.px.now = c.fill_row.auto.row ∙ lent_size (length c.args.px.now) c.loop-i.i c.loop-i.out room.0 in
    parts_turn c.args.field.now.number c.args.k c.args.px.now c.args.l.now c.args.u.now c.args.a.now c.args.b.now room.0 size c.loop-i.invariant c.fill_row.ensures
