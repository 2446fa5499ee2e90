-- Three lines, one after the other.
use Rattle.sheet.specs.Job.{accepting}
use Rattle.sheet.proofs.Answers.{appends_then}
use Rattle.sheet.proofs.writing.write_accepted.Goals as goal

pub returns : goal.returns
unfolding accepting
returns c = appends_then c.put_line-first.ensures (appends_then c.put_line-second.ensures c.put_line.ensures)
