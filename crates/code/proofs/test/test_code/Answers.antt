-- The field, and then the test over it.
use Rattle.basics.proofs.Outcomes.{exit_answer}
use Rattle.code.proofs.Opened.{no_field_answer}
use Rattle.code.proofs.test.test_code.Goals as goal

pub returns-in_err-test_number : goal.returns-in_err-test_number
returns-in_err-test_number c = exit_answer _ _ c.from_residual.ensures.1 (no_field_answer c.args.p _ _ c.in_err-test_number.ensures.refused)
