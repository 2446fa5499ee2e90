use Rattle.picked_rows.proofs.Rows.{left_none, left_turn}
use Rattle.picked_rows.proofs.sums.sum_rows.Goals as goal

pub loop-i-init : goal.loop-i-init
loop-i-init c =
    left_none c.args.field.now.number c.args.k c.args.px.now c.args.l.now c.args.u.now c.args.a.now c.args.b.now c.fill_ones.ensures c.requires.slots.0.sum_size

pub loop-i-preserved : goal.loop-i-preserved
loop-i-preserved c =
    left_turn c.args.field.now.number c.args.k c.args.px.now c.args.l.now c.args.u.now c.args.a.now c.args.b.now c.loop-i.invariant c.fill_row.ensures
