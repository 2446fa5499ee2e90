-- The pass is the second step on what the first would leave.
use Rattle.two_places.proofs.Turns.{second_steps, second_passes}
use Rattle.two_places.proofs.turn.both_steps.Goals as goal

pub returns : goal.returns
returns c =
    let k = c.args.field.now.tables.field in
    let r = c.requires.i_in_bounds in
    record {
      steps = second_steps k r.0 r.2 r.3 c.requires.turns c.sweep_twice.ensures.0 c.sweep_twice.ensures.1 _ _ c.after_step.ensures c.swapped.ensures;
      passes = second_passes k r.0 r.2 r.3 c.requires.turns c.sweep_twice.ensures.0 c.sweep_twice.ensures.1;
    }
