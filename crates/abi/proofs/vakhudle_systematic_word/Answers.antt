-- The operation's answer as a number.
use mathlib.Core.Path.{◌∙◌}
use mir.Syntax.{w32}
use mir.ValLaws.{to_z-of_z}
use Rattle.basics.proofs.Outcomes.{report}
use Rattle.abi.proofs.vakhudle_systematic_word.Goals as goal

pub returns : goal.returns
returns c =
    report (rw c.parameters-parts.ensures at c.systematic_word.ensures)
    (to_z-of_z w32 c.status.result (record { sfits = c.status.type_inv }) ∙ c.status.ensures)
