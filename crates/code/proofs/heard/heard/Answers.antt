-- The code, and then the operation.
use Rattle.basics.proofs.Outcomes.{exit}
use Rattle.codewords.specs.Code.{n}
use Rattle.codewords.proofs.Accepted.{accepted_done}
use Rattle.code.specs.Heard.{heard_tested}
use Rattle.code.proofs.Opened.{no_field, no_code, opened}
use Rattle.code.proofs.heard.heard.Goals as goal

pub returns-in_err-test_number : goal.returns-in_err-test_number
returns-in_err-test_number c = exit _ _ c.from_residual.ensures.1 (no_field c.args.code _ _ _ c.in_err-test_number.ensures.refused)

pub returns-in_err-accepted : goal.returns-in_err-accepted
returns-in_err-accepted c =
    exit _ _ c.from_residual-in_err-accepted.ensures.1 (no_code c.args.code _ _ c.of-field.ensures _ c.in_err-accepted.ensures.refused)

pub heard_tested-requires : goal.heard_tested-requires
heard_tested-requires c = (accepted_done _ c.in_ok-accepted.accepted.accepted).n_most

pub returns : goal.returns
returns c =
    opened c.args.code _ _ c.of-field.ensures (λ code. heard_tested (n code) c.args.mask.now c.args.out.now) c.in_ok-accepted.accepted
    c.in_ok-accepted.ensures.accepted c.heard_tested.ensures
