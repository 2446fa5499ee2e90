-- The arrays are handed on in the order L, U.
use Rattle.two_places.proofs.Runs.{advances_round}
use Rattle.two_places.proofs.run.advance_turn.Goals as goal

pub returns-then-turned : goal.returns-then-turned
returns-then-turned c =
    rw c.if-turned.true (advances_round c.swapped.ensures c.advance-d.ensures)
