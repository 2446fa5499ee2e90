-- Zeros bring the function to its new length, and the product is taken there.
use mathlib.Core.Path.{◌∙◌}
use native.Mathlib.Omega.{arith}
use Rattle.basics.proofs.Lists.{lent}
use Rattle.engine.proofs.Laws.{growth_le, raised_as}
use Rattle.engine.proofs.pair.raise.Goals as goal

pub returns : goal.returns
returns c =
    lent c.extend.new.f _ c.grown-k.result _ ((omega (arith, growth_le c.args.n, c.grown-k.ensures, c.extend.auto.f))) c.times_linear.auto.f
    (c.times_linear.ensures ∙ rw c.extend.ensures (raised_as _ c.args.alpha c.args.n c.grown-k.result c.args.f.now (omega arith) c.grown-k.ensures))
