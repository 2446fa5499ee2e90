-- What fits no byte is refused in its turn, and then the job is run over the points.
use mathlib.Core.Path.{sym, ◌∙◌}
use Rattle.field.proofs.Galois.{is_field_lem, no_field}
use Rattle.codewords.specs.Code.{coefficients_below}
use Rattle.sheet.specs.Job.{curve_of, code_for, job_outcome}
use Rattle.sheet.proofs.Stops.{passes, stops}
use Rattle.sheet.proofs.Jobs.{too_large}
use Rattle.sheet.proofs.job.run.Goals as goal

pub returns-then-head-ge256 : goal.returns-then-head-ge256
unfolding job_outcome code_for
returns-then-head-ge256 c = stops _ (no_field c.args.head.field c.if-head-ge256.true)

pub returns-then-not-is_field : goal.returns-then-not-is_field
unfolding job_outcome code_for
returns-then-not-is_field c = stops _ (sym c.is_field.ensures ∙ c.if-not-is_field.true)

pub returns-then-not-is_small : goal.returns-then-not-is_small
unfolding job_outcome code_for coefficients_below
returns-then-not-is_small c =
    let is_field = sym c.is_field.ensures ∙ c.if-not-is_field.false in
    passes _ is_field (stops _ (too_large c.args.head.field (curve_of c.args.head) (is_field_lem c.args.head.field is_field) (sym c.is_small.ensures ∙ c.if-not-is_small.true)))

pub returns : goal.returns
unfolding job_outcome code_for
returns c = rw c.parameters.ensures at c.run_points.ensures
