-- There is such a place, or there is none.
use Prim.Native.Nat.{min}
use mathlib.Core.Path.{sym, ◌∙◌, ap}
use native.Mathlib.Omega.{arith}
use Rattle.patterns.specs.Best.{entries}
use Rattle.gap.proofs.Least.{single_some, single_none}
use Rattle.gap.proofs.left.single_left.Goals as goal

pub returns-then-done-places : goal.returns-then-done-places
returns-then-done-places c =
    c.min.ensures ∙ ap (min c.args.low) c.trust_of.ensures.0
    ∙ sym (single_some (entries c.args.trusts.now c.args.places.now) c.args.low _ c.args.done c.if-done-places.true)

pub returns-else-done-places : goal.returns-else-done-places
returns-else-done-places c =
    sym (single_none (entries c.args.trusts.now c.args.places.now) c.args.low _ c.args.done (omega arith))
