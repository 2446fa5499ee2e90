-- The arrays are handed on in the order L, U.
use Rattle.values.proofs.Steps.{words_round}
use Rattle.values.proofs.word.word_turn.Goals as goal

pub returns-then-turned : goal.returns-then-turned
returns-then-turned c = rw c.if-turned.true (words_round c.swapped.ensures c.word_step.ensures)
