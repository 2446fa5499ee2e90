-- The values between two places are lists that nothing holds: the pass makes of each element what the two steps would make of it, one after the other.
use Prim.Native.Nat.{ℕ, ◌+◌, ◌<◌, ◌≤◌}
use mathlib.Core.Path.{◌≡◌, sym, ◌∙◌, ap, ap₂}
use mathlib.Core.Bool.{Bool, true, false, not, cond}
use mathlib.Core.List.{List}
use native.Mathlib.Omega.{arith}
use lib.Dec.{ltb}
use lib.ListN.{length, get_or}
use Rattle.basics.specs.Lists.{table}
use Rattle.basics.proofs.Lists.{length_table, get_or_table}
use Rattle.field.specs.Sum.{◌⊕◌}
use Rattle.field.specs.Galois.{IsField, product, inverse}
use Rattle.elliptic.specs.Pair.{growth}
use Rattle.engine.specs.declared.pair.Sizes.{Sizes}
use Rattle.engine.specs.Arrays.{Ordered}
use Rattle.values.specs.Values.{Swept, Steps, Passes, raised_at, gained_at}
use Rattle.values.proofs.Steps.{steps, steps_passes, steps_round}
use Rattle.two_places.specs.declared.turn.Factors.{Factors}
use Rattle.two_places.specs.Turns.{low_between, high_between, raised_twice, gained_twice, IsFactors, Turns}

-- the list of what a rule gives is as if it were swept
swept_table : (rule : ℕ → ℕ) (e : ℕ) (old : List ℕ) {n : ℕ} → length old ≡ n → Swept rule e old (table rule n)
swept_table rule e old {n} h = record { size = length_table rule n ∙ sym h; at = λ i a b. get_or_table rule n i 0 (omega arith) }

-- what the tests of two steps at once say of the factors
pub can_turn : {m : ℕ} {xs : List ℕ} {i : ℕ} {l u : List ℕ} {w : Factors} {q : Bool} → IsFactors m xs i l u w
    → (q ≡ true) × (get_or l i 0 ≡ 0 → ⊥) × (w.next ≡ 0 → ⊥) → Turns m xs i l u w
can_turn f t = record { are = f; some = t.1; next_some = t.2 }

module _ {m : ℕ} (k : IsField m) {xs : List ℕ} {i : ℕ} (inside : i + 1 < length xs) {l u : List ℕ} (first : length l ≡ length xs) (second : length u ≡ length xs) {w : Factors}
    (turns : Turns m xs i l u w) where
  abbrev L : List ℕ
  L = low_between m xs (get_or xs i 0) l

  abbrev U : List ℕ
  U = high_between m xs w.t l u

  low_swept : Swept (raised_at m xs (get_or xs i 0) l) (i + 1) l L
  low_swept = swept_table (raised_at m xs (get_or xs i 0) l) (i + 1) l first

  high_swept : Swept (gained_at m w.t l u) (i + 1) u U
  high_swept = swept_table (gained_at m w.t l u) (i + 1) u second

  -- the first step
  pub first_steps : (low high : ℕ) {z : Sizes} → Ordered (low + growth low) (cond (ltb high low) low high) z → Steps m xs i (i + 1) l u low high L U z
  first_steps low high o = steps k (omega arith) low high first second turns.some turns.are.first low_swept high_swept o

  pub first_passes : Passes m xs i (i + 1) l u L U
  first_passes = steps_passes first second turns.some turns.are.first low_swept high_swept

  low_at : (j : ℕ) → j < length xs → get_or L j 0 ≡ raised_at m xs (get_or xs i 0) l j
  low_at j h = get_or_table (raised_at m xs (get_or xs i 0) l) (length xs) j 0 h

  high_at : (j : ℕ) → j < length xs → get_or U j 0 ≡ gained_at m w.t l u j
  high_at j h = get_or_table (gained_at m w.t l u) (length xs) j 0 h

  low_size : length L ≡ length xs
  low_size = length_table (raised_at m xs (get_or xs i 0) l) (length xs)

  high_size : length U ≡ length xs
  high_size = length_table (gained_at m w.t l u) (length xs)

  pub next_between : w.next ≡ get_or U (i + 1) 0
  next_between = turns.are.next ∙ sym (high_at (i + 1) inside)

  pub some_between : get_or U (i + 1) 0 ≡ 0 → ⊥
  some_between z = turns.next_some (next_between ∙ z)

  pub factor_between : w.s ≡ product m (get_or L (i + 1) 0) (inverse m (get_or U (i + 1) 0))
  factor_between = turns.are.second ∙ ap₂ (λ a b. product m a (inverse m b)) (sym (low_at (i + 1) inside)) next_between

  -- the second
  module _ {a b : List ℕ} {e : ℕ} (x : Swept (gained_twice m xs (get_or xs i 0) w.t w.s l u) e l a) (y : Swept (raised_twice m xs w.t (get_or xs (i + 1) 0) l u) e u b) where
    second_raised : Swept (raised_at m xs (get_or xs (i + 1) 0) U) e U b
    second_raised =
        record {
          size = y.size ∙ second ∙ sym high_size;
          at = λ j h g. y.at j h (omega (arith, high_size, second)) ∙ ap (product m (get_or xs j 0 ⊕ get_or xs (i + 1) 0)) (sym (high_at j (omega (arith, high_size))));
        }

    second_gained : Swept (gained_at m w.s U L) e L a
    second_gained =
        record {
          size = x.size ∙ first ∙ sym low_size;
          at = λ j h g. x.at j h (omega (arith, low_size, first)) ∙ ap₂ (λ p r. p ⊕ product m w.s r) (sym (low_at j (omega (arith, low_size)))) (sym (high_at j (omega (arith, low_size))));
        }

    pub second_steps : (low high : ℕ) {r s : Sizes} → Ordered (low + growth low) (cond (ltb high low) low high) r → (s.low ≡ r.low) × (s.high ≡ r.high) × (s.turned ≡ not r.turned)
        → Steps m xs (i + 1) e U L low high a b s
    second_steps low high o h = steps_round h (steps k inside low high high_size low_size some_between factor_between second_raised second_gained o)

    pub second_passes : Passes m xs (i + 1) e U L b a
    second_passes = steps_passes high_size low_size some_between factor_between second_raised second_gained

-- U, which is the shorter then, has room for the second step
pub room_between : (low high : ℕ) {z : Sizes} → Ordered (low + growth low) (cond (ltb high low) low high) z → z.turned ≡ true → low + 2 ≤ 292 → high + 2 ≤ 292 → z.low + 2 ≤ 292
room_between low high {z} o e l h = rw (o.low, ← o.turned, e) (go (ltb high low))
  where
    go : (b : Bool) → cond b low high + 2 ≤ 292
    go true = l
    go false = h
