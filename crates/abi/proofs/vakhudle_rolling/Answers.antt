-- The operation's answer as a number.
use mathlib.Core.Path.{◌∙◌}
use mir.Syntax.{w16, w32}
use mir.ValLaws.{to_z-of_z}
use Rattle.basics.proofs.Outcomes.{report}
use Rattle.rolling.specs.Bytes.{rolling_outcome}
use Rattle.abi.proofs.vakhudle_rolling.Goals as goal

pub returns : goal.returns
returns c =
    let met = rw (to_z-of_z w16 c.args.mean c.ranges.mean) at c.rolling.ensures in
    report {o = rolling_outcome c.args.state.now c.args.hour c.args.mean c.args.out.now} met
    (to_z-of_z w32 c.status.result (record { sfits = c.status.type_inv }) ∙ c.status.ensures)
