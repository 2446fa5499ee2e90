-- Where there are two places, a pair is left.
use Prim.Native.Nat.{ℕ, ◌+◌, ◌<◌, ◌≤◌}
use mathlib.Core.Path.{sym}
use mathlib.Core.Logic.{◌⊎◌, ⊎_elim}
use native.Mathlib.Omega.{arith}
use Rattle.patterns.specs.Best.{entries}
use Rattle.gap.proofs.Least.{row_some, row_none}
use Rattle.gap.proofs.left.row_left.Goals as goal

inside : (k left : ℕ) → (k < 2) ⊎ (left + 1 < k) → 2 ≤ k → left + 1 < k
inside k left h two = ⊎_elim (λ few. omega (arith, few, two)) (λ l. l) h

pub returns-then-k-ge2 : goal.returns-then-k-ge2
returns-then-k-ge2 c =
    rw (c.pair_below.ensures, c.min.ensures, c.pair_trust-pair.ensures.0)
    (sym (row_some (entries c.args.trusts.now c.args.places.now) c.args.low c.args.k c.args.left (inside _ _ c.requires.2 c.if-k-ge2.true)))

pub returns-else-k-ge2 : goal.returns-else-k-ge2
returns-else-k-ge2 c =
    sym (row_none (entries c.args.trusts.now c.args.places.now) c.args.low c.args.k c.args.left (omega arith))
