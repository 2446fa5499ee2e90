-- The operation's answer as a number.
use mathlib.Core.Path.{◌∙◌}
use native.Mathlib.Omega.{arith}
use mir.Syntax.{w32}
use mir.ValLaws.{to_z-of_z}
use Rattle.basics.proofs.Outcomes.{report, count_small}
use Rattle.abi.proofs.vakhudle_sheet.Goals as goal

pub count_status-requires : goal.count_status-requires
count_status-requires c = count_small _ _ (omega (arith, c.answer_sheet.ensures.few))

pub returns : goal.returns
returns c = report c.answer_sheet.ensures.meets (to_z-of_z w32 c.count_status.result (record { sfits = c.count_status.type_inv }) ∙ c.count_status.ensures)
