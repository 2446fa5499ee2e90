-- The run over the first k − 1 kept places, and the last step with L from the array where it stands.
use mathlib.Core.Path.{sym, ◌∙◌}
use Rattle.solving.proofs.Link.{accepted}
use Rattle.correction.proofs.Solving.{kept_placed, runs_kept, two_left, word_second, word_first}
use Rattle.correction.proofs.solve.solve_kept.Goals as goal

pub overflow_sub-count : goal.overflow_sub-count
overflow_sub-count c = (accepted (kept_placed c.requires.decided)).k_least

pub run-reached-requires : goal.run-reached-requires
run-reached-requires c = record { runs_kept = runs_kept c.requires.decided; l_len = c.requires.l_len }

pub finish-requires : goal.finish-requires
finish-requires c =
    record { two_left = two_left c.requires.decided c.run-reached.ensures c.run-reached.ensures.second_size; r_len = (c.requires.decided.symbols_size ∙ sym c.requires.decided.kept_size, c.run-reached.ensures.word.size ∙ sym c.requires.decided.kept_size) }

pub finish-requires-else-turned : goal.finish-requires-else-turned
finish-requires-else-turned c =
    record { two_left = two_left c.requires.decided c.run-reached.ensures c.run-reached.ensures.first_size; r_len = (c.requires.decided.symbols_size ∙ sym c.requires.decided.kept_size, c.run-reached.ensures.word.size ∙ sym c.requires.decided.kept_size) }

pub returns-then-turned : goal.returns-then-turned
returns-then-turned c =
    word_second c.requires.decided c.run-reached.ensures c.if-turned.true c.finish.ensures

pub returns-else-turned : goal.returns-else-turned
returns-else-turned c =
    word_first c.requires.decided c.run-reached.ensures c.if-turned.false c.finish-else-turned.ensures
