-- The least of the cost and all parts is at most the cost.
use Prim.Native.Nat.{◌-◌}
use mathlib.Core.Path.{◌≡◌, sym, ◌∙◌, ap}
use native.Mathlib.Omega.{arith}
use native.Mathlib.Nat.{mul-le-mul, mul-pos}
use lib.ListN.{length}
use Rattle.patterns.specs.Best.{entries}
use Rattle.patterns.specs.Cheapest.{least}
use Rattle.patterns.specs.Computed.{least_left}
use Rattle.patterns.proofs.Cheapest.{least_first}
use Rattle.gap.proofs.Least.{gap_least, least_parts}
use Rattle.gap.proofs.gap.gap.Goals as goal

pub overflow_mul-places : goal.overflow_mul-places
overflow_mul-places c = record { fits = omega (arith, mul-le-mul c.requires.1 c.requires.3) }

pub overflow_mul-s : goal.overflow_mul-s
overflow_mul-s c = record { fits = omega (arith, mul-le-mul c.requires.3 c.requires.3) }

pub nonzero_div-left : goal.nonzero_div-left
nonzero_div-left c = mul-pos c.requires.2 c.requires.2

-- the least of the cost and all parts
all : (c : goal.After-triple_left) →
    c.triple_left.result ≡ least c.args.cost (least_left (entries c.args.trusts.now c.args.places.now) (length c.args.places.now) c.args.s c.args.tries)
all c =
    least_parts (entries c.args.trusts.now c.args.places.now) (length c.args.places.now) c.args.s c.args.tries c.args.cost
    c.single_left-single.ensures c.saturating_sub-left.ensures c.pair_left-pair.ensures c.triple_left.ensures

pub overflow_sub-result : goal.overflow_sub-result
overflow_sub-result c = rw (all c) (least_first _ _)

pub returns : goal.returns
returns c = ap (λ low. c.args.cost - low) (all c) ∙ sym (gap_least c.args.cost _)
