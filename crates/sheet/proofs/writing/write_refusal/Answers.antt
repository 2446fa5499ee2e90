-- One line.
use Rattle.sheet.specs.Job.{answer_text}
use Rattle.sheet.proofs.writing.write_refusal.Goals as goal

pub returns : goal.returns
unfolding answer_text
returns c = rw (← c.number.ensures) c.put_line.ensures
