-- By what was read: the job, or number 20.
use mathlib.Core.Path.{ap}
use native.Mathlib.Omega.{arith}
use Rattle.basics.specs.declared.Refusal.TheVariants.{SheetShape}
use Rattle.sheet.specs.Job.{answer_text, outcome_of}
use Rattle.sheet.proofs.Answers.{refusal_few, appends_as}
use Rattle.sheet.proofs.answer.answer_read.Goals as goal

pub returns-in_default : goal.returns-in_default
unfolding outcome_of
returns-in_default c =
    (appends_as (ap (λ r. answer_text (outcome_of r)) c.in_default.ensures.reads) c.write_refusal.ensures, omega (arith, c.write_refusal.ensures.count, refusal_few SheetShape))

pub returns : goal.returns
unfolding outcome_of
returns c = (appends_as (ap (λ r. answer_text (outcome_of r)) c.in-Some.ensures.reads) c.answer_job.ensures.0, c.answer_job.ensures.1)
