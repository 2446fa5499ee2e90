-- The code test, and then the job of a code that passed it.
use mathlib.Core.Path.{sym}
use Rattle.codewords.proofs.Accepted.{check_done, check_refused}
use Rattle.sheet.proofs.Stops.{runs_as, exit_ran}
use Rattle.sheet.proofs.job.run_over.Goals as goal

pub returns-in_err-test_code : goal.returns-in_err-test_code
returns-in_err-test_code c = exit_ran _ c.from_residual.ensures.1 (sym (check_refused _ (sym c.in_err-test_code.ensures) _))

pub returns : goal.returns
returns c = runs_as (check_done _ (sym c.in_ok-test_code.ensures) _) c.run_tested.ensures
