-- The coefficients, and then the points.
use mathlib.Core.Path.{sym, ◌∙◌}
use Rattle.codewords.specs.Code.{coefficients_below}
use Rattle.code.proofs.Answering.{wrong_coefficient, behind}
use Rattle.code.proofs.test.test_code_with.Goals as goal

pub returns-then-not-coefficients_below : goal.returns-then-not-coefficients_below
unfolding coefficients_below
returns-then-not-coefficients_below c = wrong_coefficient _ c.args.field.now.tables.field (sym c.coefficients_below.ensures ∙ c.if-not-coefficients_below.true)

pub returns : goal.returns
unfolding coefficients_below
returns c = c.test_points.ensures ∙ behind _ c.args.field.now.tables.field (sym c.coefficients_below.ensures ∙ c.if-not-coefficients_below.false)
