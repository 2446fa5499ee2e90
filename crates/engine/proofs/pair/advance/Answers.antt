-- U is cancelled by L before L is raised.
use mathlib.Core.List.{[]}
use Rattle.engine.proofs.States.{stepped_pair}
use Rattle.engine.proofs.pair.advance.Goals as goal

pub returns : goal.returns
returns c =
    stepped_pair c.args.field.now.number c.args.p 0 _ _ [] c.requires.room.1 c.value-at_u.ensures c.quotient-t.ensures c.raise-first.ensures c.gain-second.ensures c.ordered.ensures
