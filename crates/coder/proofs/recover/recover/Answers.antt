-- The field, the code, and then the operation of the accepted code.
use Rattle.basics.proofs.Outcomes.{exit}
use Rattle.code.proofs.Opened.{no_field, no_code, opened}
use Rattle.coder.specs.Stages.{recover_tested}
use Rattle.coder.proofs.recover.recover.Goals as goal

pub returns-in_err-test_number : goal.returns-in_err-test_number
returns-in_err-test_number c = exit _ _ c.from_residual.ensures.1 (no_field c.args.code _ _ _ c.in_err-test_number.ensures.refused)

pub returns-in_err-accepted : goal.returns-in_err-accepted
returns-in_err-accepted c =
    exit _ _ c.from_residual-in_err-accepted.ensures.1 (no_code c.args.code _ _ c.of-field.ensures _ c.in_err-accepted.ensures.refused)

pub returns : goal.returns
returns c =
    opened c.args.code _ _ c.of-field.ensures (λ code. recover_tested code c.args.symbols.now c.args.out.now c.args.work.now) c.in_ok-accepted.accepted c.in_ok-accepted.ensures.accepted
    c.recover_tested.ensures
