-- The arrays are handed on in the order L, U.
use Rattle.generator.proofs.Progress.{advance_round}
use Rattle.generator.proofs.advance.advance_turn.Goals as goal

pub returns-then-turned : goal.returns-then-turned
returns-then-turned c =
    rw c.if-turned.true (advance_round c.args.field.now.tables.field c.swapped.ensures c.advance-d.ensures)
