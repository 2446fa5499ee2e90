-- Two points at once are one after the other on lists that nothing holds, so the rows go on as by two steps.
use Prim.Native.Nat.{ℕ, ◌+◌, ◌<◌, ◌≤◌}
use mathlib.Core.Path.{◌≡◌, sym, subst}
use mathlib.Core.Bool.{Bool, true, false, not, cond}
use mathlib.Core.List.{List}
use native.Mathlib.Omega.{arith}
use lib.ListN.{length, get_or}
use Rattle.field.specs.Galois.{IsField}
use Rattle.field.proofs.Galois.{galois_field}
use Rattle.engine.specs.declared.pair.Sizes.{Sizes}
use Rattle.values.specs.Values.{Steps, Passes}
use Rattle.values.proofs.Steps.{shown_round}
use Rattle.values.proofs.Runs.{first_more}
use Rattle.two_places.specs.declared.turn.Factors.{Factors}
use Rattle.two_places.specs.Turns.{low_between, high_between, Turns}
use Rattle.two_places.proofs.Turns.{first_passes, next_between, some_between, factor_between}
use Rattle.generator.specs.Rows.{RowsRaised, RowsStep, raised_of, Rows}
use Rattle.generator.specs.Advance.{BothRows, RowsAdvance}
use Rattle.generator.proofs.Adding.{row_swap, rows_both, rows_round}
use Rattle.generator.proofs.Words.{rows_next}

module _ {m : ℕ} (k : IsField m) {xs : List ℕ} {i : ℕ} (inside : i + 1 < length xs) {l u : List ℕ} (first : length l ≡ length xs) (second : length u ≡ length xs) {w : Factors}
    (turns : Turns m xs i l u w) where
  abbrev L : List ℕ
  L = low_between m xs (get_or xs i 0) l

  abbrev U : List ℕ
  U = high_between m xs w.t l u

  pub first_rows_lem : {a b a₁ b₁ : List ℕ} → RowsRaised m i (get_or l i 0) w.t xs a b a₁ b₁ → RowsStep m i xs (raised_of i l u) l u a b L U a₁ b₁
  first_rows_lem {a} {b} {a₁} {b₁} r =
      rows_both k i xs l u L U (first_passes k inside first second turns)
      (record { by_high = λ z. absurd (turns.some z); by_low = λ _. subst (λ t. RowsRaised m i (get_or l i 0) t xs a b a₁ b₁) turns.are.first r })

  pub second_rows : {a₁ b₁ l' u' a' b' : List ℕ} → Passes m xs (i + 1) (i + 1 + 1) U L u' l' → RowsRaised m (i + 1) w.next w.s xs b₁ a₁ b' a'
      → RowsStep m (i + 1) xs (raised_of (i + 1) U L) L U a₁ b₁ l' u' a' b'
  second_rows {a₁} {b₁} {l'} {u'} {a'} {b'} p r =
      rows_round k
      (rows_both k (i + 1) xs U L u' l' p
      (record {
        by_high = λ z. absurd (some_between k inside first second turns z);
        by_low = λ _.
            subst (λ t. RowsRaised m (i + 1) (get_or U (i + 1) 0) t xs b₁ a₁ b' a') (factor_between k inside first second turns)
            (subst (λ v. RowsRaised m (i + 1) v w.s xs b₁ a₁ b' a') (next_between k inside first second turns) r);
      }))

-- ---- a run goes on

-- L and U in their order
abbrev straight : ℕ → ℕ → Sizes
straight low high = record { low = low; high = high; turned = false }

module _ {m : ℕ} (k : IsField m) {xs : List ℕ} {i limit : ℕ} (enough : limit ≤ length xs) {l u a b : List ℕ} {low high : ℕ} {l' u' a' b' : List ℕ} {r : Sizes} where
  pub advance_one : i < limit → Steps m xs i (i + 1) l u low high l' u' r → RowsStep m i xs (raised_of i l u) l u a b l' u' a' b'
      → RowsAdvance m i limit xs l u a b low high l' u' a' b' (i + 1) r
  advance_one h p w =
      record {
        further = omega arith;
        within = omega arith;
        next = λ ys count most runs able shown rows. (
          rw (first_more m xs ys i (omega arith)) at (p.next ys i _ 0 (omega arith) (omega arith) (runs.small i (omega arith)) shown),
          rows_next k xs ys count i (omega arith) (omega arith) able l u (straight low high) shown rows w,
        );
      }

  pub advance_two : {t : ℕ} {z : Sizes} → i + 1 < limit → z.turned ≡ true → Steps m xs i (i + 1) l u low high (low_between m xs (get_or xs i 0) l) (high_between m xs t l u) z
      → BothRows m i t xs l u a b z.low z.high l' u' a' b' r → RowsAdvance m i limit xs l u a b low high l' u' a' b' (i + 1 + 1) r
  advance_two {t} {z} h e p w =
      record {
        further = omega arith;
        within = omega arith;
        next = λ ys count most runs able shown rows.
            let L = low_between m xs (get_or xs i 0) l in
            let U = high_between m xs t l u in
            let one = rw (first_more m xs ys i (omega arith)) at (p.next ys i _ 0 (omega arith) (omega arith) (runs.small i (omega arith)) shown) in
            let between = rows_next k xs ys count i (omega arith) (omega arith) able l u (straight low high) shown rows w.first in
            let second = subst (λ y. RowsStep m (i + 1) xs (raised_of (i + 1) (cond y U L) (cond y L U)) L U w.a₁ w.b₁ l' u' a' b') (sym e) w.second in (
              rw (first_more m xs ys (i + 1) (omega arith)) at (w.pair.steps.next ys (i + 1) _ 0 (omega arith) (omega arith) (runs.small (i + 1) (omega arith)) (rw e at one)),
              rows_next k xs ys count (i + 1) (omega arith) (omega arith) able L U z one between second,
            );
      }

-- ---- the arrays the other way round

rows_swap : {m : ℕ} → IsField m → {xs ys l u a b : List ℕ} {count i : ℕ} → Rows m xs ys count l u a b i → Rows m xs ys count u l b a i
rows_swap k r = record { row = λ j h. row_swap (galois_field k) (r.row j h); whole = r.whole }

pub rows_order : {m : ℕ} → IsField m → (t : Bool) {xs ys l u a b : List ℕ} {count i : ℕ} → Rows m xs ys count l u a b i → Rows m xs ys count (cond t u l) (cond t l u) (cond t b a) (cond t a b) i
rows_order k true r = rows_swap k r
rows_order k false r = r

pub advance_round : {m i limit low high c : ℕ} → IsField m → {xs l u a b l' u' a' b' : List ℕ} {r n : Sizes} → (n.low ≡ r.low) × (n.high ≡ r.high) × (n.turned ≡ not r.turned)
    → RowsAdvance m i limit xs l u a b low high u' l' b' a' c r → RowsAdvance m i limit xs l u a b low high l' u' a' b' c n
advance_round k {l' = l'} {u'} {r = r} {n} h p =
    record {
      further = p.further;
      within = p.within;
      next = λ ys count most runs able shown rows. let (pair, more) = p.next ys count most runs able shown rows in (shown_round l' u' r n h pair, rows_swap k more);
    }
