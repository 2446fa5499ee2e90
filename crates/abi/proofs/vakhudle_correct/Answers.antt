-- The operation's answer as a number.
use mathlib.Core.Path.{◌∙◌}
use mir.Syntax.{w32}
use mir.ValLaws.{to_z-of_z}
use Rattle.basics.proofs.Outcomes.{report, count_within}
use Rattle.codewords.specs.Code.{code_of}
use Rattle.abi.proofs.Counts.{correct_counts}
use Rattle.abi.proofs.vakhudle_correct.Goals as goal

pub count_status-requires : goal.count_status-requires
count_status-requires c = count_within _ _ c.correct.ensures (correct_counts (code_of c.parameters-parts.result _ _) c.args.received.now c.args.out.now c.args.work.now)

pub returns : goal.returns
returns c =
    report (rw c.parameters-parts.ensures at c.correct.ensures)
    (to_z-of_z w32 c.count_status.result (record { sfits = c.count_status.type_inv }) ∙ c.count_status.ensures)
