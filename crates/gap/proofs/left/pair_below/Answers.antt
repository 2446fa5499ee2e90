-- There are two places, or there are not.
use mathlib.Core.Path.{sym, ◌∙◌}
use native.Mathlib.Omega.{arith}
use Rattle.patterns.specs.Best.{entries}
use Rattle.gap.proofs.Least.{below_some, below_none}
use Rattle.gap.proofs.left.pair_below.Goals as goal

pub returns-then-k-ge2 : goal.returns-then-k-ge2
returns-then-k-ge2 c =
    c.min.ensures
    ∙ rw c.pair_trust.ensures.0 (sym (below_some (entries c.args.trusts.now c.args.places.now) c.args.low c.args.k (omega arith)))

pub returns-else-k-ge2 : goal.returns-else-k-ge2
returns-else-k-ge2 c =
    sym (below_none (entries c.args.trusts.now c.args.places.now) c.args.low c.args.k (omega arith))
