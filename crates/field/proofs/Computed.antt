-- Tests that antt computes over all numbers below a bound, and the entries of lists that are made by a rule.
use mathlib.Core.Path.{◌≡◌, refl, sym, ap, ◌∙◌, subst}
use mathlib.Core.Bool.{Bool, true, false, ◌&&◌}
use mathlib.Core.Logic.{⊎_elim}
use mathlib.Core.List.{List, [], ◌∷◌}
use Prim.Native.Nat.{ℕ, zero, suc, ◌+◌, ◌-◌, ◌/◌, ◌%◌, ◌<◌}
use native.Mathlib.Nat.{not-suc-le-zero, le_of_suc-le-suc, add-zero, add-suc, suc-add, eq-or-lt_of_le}
use native.Mathlib.Omega.{arith}
use lib.Dec.{T, eqb, eqb→eq}
use lib.ListN.{length, get_or}
use Rattle.basics.specs.Lists.{same}
use Rattle.basics.proofs.Lists.{same_true}
use Rattle.field.specs.Galois.{IsField, rows}
use Rattle.field.specs.Tables.{iterate, tabulate}

-- the test passes at each number below n
unfoldable pub all_below : (ℕ → Bool) → ℕ → Bool
all_below f zero = true
all_below f (suc n) = f n && all_below f n

pub apart : (a b : Bool) → T (a && b) → T a × T b
apart true b t = (tt, t)
apart false b t = absurd t

pub below : (f : ℕ → Bool) (n : ℕ) → T (all_below f n) → (k : ℕ) → k < n → T (f k)
unfolding all_below
below f zero t k h = absurd (not-suc-le-zero h)
below f (suc n) t k h =
    let t' = apart (f n) (all_below f n) t in
    ⊎_elim (λ e. subst (λ x. T (f x)) (sym e) t'.0) (λ l. below f n t'.1 k l) (eq-or-lt_of_le (le_of_suc-le-suc h))

-- a test that passes at all field numbers, one for each row but the first two, passes at each
pub each_field : (test : ℕ → Bool) → T (all_below (λ k. test (k + 2)) (length rows - 2)) → {m : ℕ} → IsField m → T (test m)
unfolding rows
each_field test t {m} h = subst (λ x. T (test x)) (omega arith) (below (λ k. test (k + 2)) (length rows - 2) t (m - 2) (omega arith))

-- ---- lists by a rule

-- the terms of a sequence s that f goes through
pub iterate_at : (f s : ℕ → ℕ) → ((i : ℕ) → s (suc i) ≡ f (s i))
    → (i n k : ℕ) → k < n → get_or (iterate f (s i) n) k 0 ≡ s (i + k)
unfolding iterate
iterate_at f s next i zero k h = absurd (not-suc-le-zero h)
iterate_at f s next i (suc n) zero h = ap s (sym (add-zero i))
iterate_at f s next i (suc n) (suc k) h =
    ap (λ x. get_or (iterate f x n) k 0) (sym (next i)) ∙ iterate_at f s next (suc i) n k (le_of_suc-le-suc h)
    ∙ ap s (suc-add i k ∙ sym (add-suc i k))

pub length_iterate : (f : ℕ → ℕ) (x n : ℕ) → length (iterate f x n) ≡ n
unfolding iterate
length_iterate f x zero = refl
length_iterate f x (suc n) = ap suc (length_iterate f (f x) n)

pub tabulate_at : (f : ℕ → ℕ) (i n k : ℕ) → k < n → get_or (tabulate f i n) k 0 ≡ f (i + k)
unfolding tabulate
tabulate_at f i zero k h = absurd (not-suc-le-zero h)
tabulate_at f i (suc n) zero h = ap f (sym (add-zero i))
tabulate_at f i (suc n) (suc k) h = tabulate_at f (suc i) n k (le_of_suc-le-suc h) ∙ ap f (suc-add i k ∙ sym (add-suc i k))

-- ---- tables in the code, by field number

-- THE TEST of two rows in the code, those of the field numbers 2k and 2k + 1: each is, entry by entry, what the rule gives for its number
unfoldable pub rows_test : (ℕ → List ℕ) → ℕ → List (List ℕ) → Bool
rows_test rule k pair = all_below (λ b. same (rule (k + k + b)) (get_or pair b [])) 2

-- so a row of two that pass it, read at the lowest bit of a field number, is the rule's
pub tested : (rule : ℕ → List ℕ) (k : ℕ) (pair : List (List ℕ)) → T (rows_test rule k pair) → {i m : ℕ} → i ≡ m % 2 → m / 2 ≡ k → get_or pair i [] ≡ rule m
unfolding rows_test
tested rule k pair t {i} {m} e h =
    let number : k + k + m % 2 ≡ m = omega arith in
    let passed = below (λ b. same (rule (k + k + b)) (get_or pair b [])) 2 t (m % 2) (omega arith) in
    ap (λ n. get_or pair n []) e ∙ sym (same_true (rule m) (get_or pair (m % 2) []) (holds _ (subst (λ n. T (same (rule n) (get_or pair (m % 2) []))) number passed)))
  where
    holds : (b : Bool) → T b → b ≡ true
    holds true t = refl
    holds false t = absurd t

-- the same of two rows that stand the other way round
pub tested_back : (rule : ℕ → List ℕ) (k : ℕ) (high low : List ℕ) → T (rows_test rule k (low ∷ high ∷ [])) → {i m : ℕ} → i ≡ 1 - m % 2 → m / 2 ≡ k
    → get_or (high ∷ low ∷ []) i [] ≡ rule m
tested_back rule k high low t {m = m} e h = ap (λ n. get_or (high ∷ low ∷ []) n []) e ∙ turned (m % 2) (omega arith) ∙ tested rule k (low ∷ high ∷ []) t refl h
  where
    turned : (b : ℕ) → b < 2 → get_or (high ∷ low ∷ []) (1 - b) [] ≡ get_or (low ∷ high ∷ []) b []
    turned zero l = refl
    turned (suc zero) l = refl
    turned (suc (suc b)) l = absurd (omega arith)

-- the same of a list of numbers by field number
unfoldable pub numbers_test : (ℕ → ℕ) → List ℕ → Bool
numbers_test rule table = all_below (λ k. eqb (get_or table (k + 2) 0) (rule (k + 2))) (length rows - 2)

pub by_number : (rule : ℕ → ℕ) (table : List ℕ) → T (numbers_test rule table) → {i m : ℕ} → i ≡ m → IsField m → get_or table i 0 ≡ rule m
unfolding numbers_test
by_number rule table t {m = m} e h = ap (λ n. get_or table n 0) e ∙ eqb→eq (get_or table m 0) (rule m) (each_field (λ m. eqb (get_or table m 0) (rule m)) t h)
