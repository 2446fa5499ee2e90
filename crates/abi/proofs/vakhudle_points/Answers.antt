-- The operation's answer as a number.
use mathlib.Core.Path.{◌∙◌}
use mir.Syntax.{w32}
use mir.ValLaws.{to_z-of_z}
use Rattle.abi.specs.Arguments.{curve_of}
use Rattle.basics.proofs.Outcomes.{report, count_within}
use Rattle.abi.proofs.Counts.{points_counts}
use Rattle.abi.proofs.vakhudle_points.Goals as goal

pub count_status-requires : goal.count_status-requires
count_status-requires c = count_within _ _ c.points.ensures (points_counts c.args.field (curve_of c.args.g1 c.args.g2 c.args.g3 c.args.g4 c.args.g6) c.args.xs.now c.args.ys.now)

pub returns : goal.returns
returns c = report c.points.ensures (to_z-of_z w32 c.count_status.result (record { sfits = c.count_status.type_inv }) ∙ c.count_status.ensures)
