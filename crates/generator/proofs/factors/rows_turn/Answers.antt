-- The arrays are handed on in the order L, U.
use Rattle.values.proofs.Steps.{steps_round}
use Rattle.generator.proofs.Adding.{rows_round}
use Rattle.generator.proofs.factors.rows_turn.Goals as goal

pub returns-then-turned : goal.returns-then-turned
returns-then-turned c =
    rw c.if-turned.true (steps_round c.swapped.ensures c.rows_step.ensures.0, rows_round c.args.field.now.tables.field c.rows_step.ensures.1)
