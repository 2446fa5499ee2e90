-- A run over the kept places: where it begins, and that the step at the next kept place is the engine's next step.
use Prim.Native.Nat.{ℕ, ◌+◌, ◌-◌, ◌<◌}
use mathlib.Core.Path.{◌≡◌, refl, sym, ◌∙◌, ap}
use mathlib.Core.Bool.{false, cond}
use mathlib.Core.List.{List}
use native.Mathlib.Omega.{arith}
use borrow.Author.Tests.{eq-eqb, ne_eqb}
use lib.ListN.{length, get_or, replicate, length-replicate}
use Rattle.basics.specs.Lists.{table}
use Rattle.basics.proofs.Lists.{get_or_map_in}
use Rattle.field.specs.Galois.{IsField, galois}
use Rattle.elliptic.specs.Curve.{point}
use Rattle.elliptic.specs.Pair.{step, after}
use Rattle.codewords.specs.Codewords.{place, symbol_at}
use Rattle.engine.specs.declared.pair.Sizes.{Sizes}
use Rattle.engine.specs.Places.{point_of}
use Rattle.engine.proofs.Runs.{after_more}
use Rattle.values.specs.Values.{WordSteps, one}
use Rattle.values.proofs.Runs.{begins, begins_word, begun_size}
use Rattle.correction.specs.Kept.{kept_before, kept_in, symbols_at, NextKept}
use Rattle.correction.specs.Runs.{RunsKept, RanKept, TwoLeft, kept_state, kept_index, last_kept}
use Rattle.correction.proofs.Counting.{none_kept, next_index}

-- the symbol received at the i-th of the places
pub symbol_at_lem : (r J : List ℕ) (i : ℕ) → i < length J → get_or (symbols_at r J) i 0 ≡ get_or r (get_or J i 0 - 1) 0
unfolding symbol_at
symbol_at_lem r J i h = get_or_map_in (λ p. symbol_at r (place p)) J i 0 0 h

module _ {m : ℕ} {xs ys r e : List ℕ} {count : ℕ} (g : RunsKept m xs ys r e count) where
  -- L = 1, U = Y and F = 0
  pub ran_none : {l u f : List ℕ} {size : ℕ} {n : Sizes} → IsField m → (n.low ≡ 1) × (n.high ≡ 3) × (n.turned ≡ false) → size ≡ length xs
      → (l ≡ table one (length ys)) × (u ≡ ys) × (f ≡ replicate size 0) → RanKept m xs ys r e 0 l u f n 0
  unfolding after
  ran_none {f = f} {size} k (a, b, t) same (p, q, z) =
      let long : length f ≡ size = ap length z ∙ length-replicate size 0 in
      record {
        first_size = begun_size g.coordinates p;
        second_size = ap length q ∙ g.coordinates.as_many;
        pair = begins k g.coordinates a b t p q;
        word = begins_word k g.coordinates (long ∙ same) (z ∙ ap (λ n. replicate n 0) (sym long));
        inside = omega arith;
        passed = sym (none_kept e);
      }

  module _ {i behind : ℕ} {l u f : List ℕ} {n : Sizes} (h : i < count) (s : RanKept m xs ys r e i l u f n behind) where
    module _ {j : ℕ} (next : NextKept e behind j) where
      found : (j < length e) × (j ≡ kept_index e i) × (length (kept_before e (j + 1)) ≡ i + 1)
      found = next_index next s.passed (omega (arith, g.runs.within.enough))

      -- one more kept place
      pub ran_more : {a b w : List ℕ} {k : Sizes} → WordSteps m xs j 0 (get_or r j 0) (cond n.turned u l) (cond n.turned l u) f n.low n.high a b w k
          → RanKept m xs ys r e (i + 1) a b w k (j + 1)
      ran_more {a} {b} {w} {k} t =
          let J = kept_in e in
          let F = galois m in
          let state = kept_state m xs ys r e i in
          let in_list : i < length J = omega (arith, g.runs.within.enough) in
          let same : step F (point (get_or xs j 0) (get_or ys j 0)) (get_or r j 0) state ≡ kept_state m xs ys r e (i + 1)
          = ap (λ j. step F (point (get_or xs j 0) (get_or ys j 0)) (get_or r j 0) state) found.1
          ∙ ap (λ v. step F (point_of xs ys (get_or J i 0)) v state) (sym (symbol_at_lem r J i in_list)) ∙ after_more xs ys J i in_list F (symbols_at r J) in
          record {
            first_size = t.pair.first_size;
            second_size = t.pair.second_size;
            pair = rw same at (t.pair.next ys 0 state (get_or r j 0) (omega arith) (omega arith) (g.runs.small i h) s.pair);
            word = rw same at (t.next ys 0 state (omega arith) (omega arith) s.pair s.word);
            inside = omega (arith, found.0);
            passed = found.2;
          }

-- the last place that is used: the next one, or the one after it where L is zero there
module _ {e l : List ℕ} {behind j : ℕ} (left : TwoLeft e l behind) (next : NextKept e behind j) where
  abbrev c : ℕ
  c = length (kept_before e behind)

  found_next : (j < length e) × (j ≡ kept_index e c) × (length (kept_before e (j + 1)) ≡ c + 1)
  found_next = next_index next refl (omega (arith, left.two))

  pub next_below : j < length e
  next_below = found_next.0

  pub last_next : (get_or l j 0 ≡ 0 → ⊥) → (j < length e) × (j ≡ last_kept e l c)
  last_next z =
      let here = found_next.1 in
      (next_below, here ∙ ap (λ b. kept_index e (cond b (c + 1) c)) (sym (ne_eqb (get_or l (kept_index e c) 0) 0 (λ y. z (ap (λ j. get_or l j 0) here ∙ y)))))

  pub last_further : {p : ℕ} → get_or l j 0 ≡ 0 → NextKept e (j + 1) p → (p < length e) × (p ≡ last_kept e l c)
  last_further z further =
      let there = next_index further found_next.2 left.two in
      (there.0, there.1 ∙ ap (λ b. kept_index e (cond b (c + 1) c)) (sym (eq-eqb (get_or l (kept_index e c) 0) 0 (ap (λ j. get_or l j 0) (sym found_next.1) ∙ z))))
