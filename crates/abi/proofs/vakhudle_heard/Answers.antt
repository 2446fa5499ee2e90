-- The operation's answer as a number.
use mathlib.Core.Path.{◌∙◌}
use mir.Syntax.{w32}
use mir.ValLaws.{to_z-of_z}
use Rattle.codewords.specs.Code.{code_of}
use Rattle.basics.proofs.Outcomes.{report, count_within}
use Rattle.abi.proofs.Counts.{heard_counts}
use Rattle.abi.proofs.vakhudle_heard.Goals as goal

pub count_status-requires : goal.count_status-requires
count_status-requires c = count_within _ _ c.heard.ensures (heard_counts (code_of c.parameters-parts.result _ _) c.args.mask.now c.args.out.now)

pub returns : goal.returns
returns c =
    report (rw c.parameters-parts.ensures at c.heard.ensures)
    (to_z-of_z w32 c.count_status.result (record { sfits = c.count_status.type_inv }) ∙ c.count_status.ensures)
