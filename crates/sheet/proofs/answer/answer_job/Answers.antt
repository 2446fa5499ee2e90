-- By what was answered: the function and the word, or the refusal.
use Rattle.sheet.proofs.Whole.{written_ok, written_err}
use Rattle.sheet.proofs.answer.answer_job.Goals as goal

pub returns-in-Ok : goal.returns-in-Ok
returns-in-Ok c = written_ok c.in-Ok.ensures c.run.auto.function c.run.auto.word (rw c.from.ensures at c.write_accepted.ensures)

pub returns-in-Err : goal.returns-in-Err
returns-in-Err c = written_err c.in-Err.ensures c.write_refusal.ensures
