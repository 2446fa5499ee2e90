-- The loop's invariant: the sum so far, with what is left, is the whole.
use Prim.Native.Nat.{◌+◌, ◌*◌, ◌≤◌}
use mathlib.Core.Path.{◌≡◌}
use lib.ListN.{length, drop}
use Rattle.patterns.specs.Cheapest.{weigh}
use Rattle.search.proofs.run.total.Given as goal

abbrev pub invariant-loop-trust : goal.invariant-loop-trust
invariant-loop-trust l =
    let i = length l.yielded in
    (l.sum ≤ 255 * i) × (l.sum + weigh (drop i l.trusts) (drop i l.difference) ≡ weigh l.trusts l.difference)
