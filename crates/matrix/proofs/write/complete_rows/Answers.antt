use mathlib.Core.Path.{◌≡◌, ◌∙◌}
use lib.ListN.{length}
use Rattle.matrix.proofs.Joined.{row_room, lent_size}
use Rattle.matrix.proofs.Marks.{completing_turn}
use Rattle.matrix.proofs.write.complete_rows.Goals as goal

pub loop-i-preserved : goal.loop-i-preserved
loop-i-preserved c =
    let room = row_room c.loop-i.out (c.loop-i.auto.out ∙ c.requires.3) c.loop-i-test.true c.requires.0.points c.requires.0.most in
    let size : length c.complete_row.new.row ≡ length c.args.px.now = c.complete_row.auto.row ∙ lent_size (length c.args.px.now) c.loop-i.i c.loop-i.out room.0 in
    completing_turn c.args.k c.args.places.now c.args.px.now c.args.a.now c.args.b.now c.args.sums.now c.args.out.now c.loop-i.out c.complete_row.new.row room.0 size c.loop-i-test.true
    c.chosen_place-place.ensures c.complete_row.ensures c.loop-i.invariant
