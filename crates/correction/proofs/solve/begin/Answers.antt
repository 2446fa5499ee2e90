-- The copy of all of the second coordinates is all of them.
use mathlib.Core.Path.{sym, ◌∙◌, ap}
use native.Mathlib.Omega.{arith}
use lib.ListN.{length}
use lib.Seq.{take_all}
use Rattle.basics.specs.Lists.{table}
use Rattle.values.specs.Values.{one}
use Rattle.correction.proofs.solve.begin.Goals as goal

pub returns : goal.returns
returns c = (
  c.fill_ones.ensures ∙ ap (table one) c.requires.0,
  sym (take_all (length c.args.ys.now) _ (omega (arith, c.copy.auto.out, c.requires.1))) ∙ c.copy.ensures ∙ take_all (length c.args.ys.now) c.args.ys.now (omega arith),
  c.clear.ensures,
)
