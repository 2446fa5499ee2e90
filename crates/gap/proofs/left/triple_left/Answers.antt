-- There are three places, or there are not.
use mathlib.Core.Path.{sym, ◌∙◌}
use native.Mathlib.Omega.{arith}
use Rattle.patterns.specs.Best.{entries}
use Rattle.gap.proofs.Least.{triple_some, triple_none}
use Rattle.gap.proofs.left.triple_left.Goals as goal

pub returns-then-k-ge3 : goal.returns-then-k-ge3
returns-then-k-ge3 c =
    c.min.ensures
    ∙ rw (c.pair_trust.ensures.0, c.trust_of-last.ensures.0)
    (sym (triple_some (entries c.args.trusts.now c.args.places.now) c.args.low _ (omega arith)))

pub returns-else-k-ge3 : goal.returns-else-k-ge3
returns-else-k-ge3 c =
    sym (triple_none (entries c.args.trusts.now c.args.places.now) c.args.low _ (omega arith))
