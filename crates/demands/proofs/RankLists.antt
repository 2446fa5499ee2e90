-- Lists of ranks: one that is nowhere later than another comes first and has the larger total, and ranks that rise are nowhere before 1, 2, 3 and so on.
use Prim.Native.Nat.{ℕ, zero, suc, ◌+◌, ◌-◌, ◌≤◌, suc-le-suc}
use mathlib.Core.Path.{◌≡◌, refl, ap, ap₂, subst}
use mathlib.Core.Bool.{Bool, true, false, cond}
use mathlib.Core.Logic.{◌⊎◌, inl, inr}
use mathlib.Core.List.Memᴰ.{cases_cons}
use mathlib.Core.List.Memᴰ.{eq_of_singleton as in-single}
use mathlib.Core.List.Memᴰ.{head as here}
use mathlib.Core.List.{List, [], ◌∷◌, ◌++◌, map, Memᴰ as In}
use native.Mathlib.Nat.{le_refl, le_trans, le_of_suc-le-suc}
use native.Mathlib.Omega.{arith}
use lib.Dec.{eqb, leb, ltb}
use lib.ListN.{length, get_or}
use borrow.Author.Tests.{eqb-true, eqb-false, leb-true, lt-ltb}
use Rattle.basics.specs.Lists.{all, sum_over}
use Rattle.basics.proofs.Lists.{both_left, both_right}
use Rattle.demands.specs.Ranking.{never_rising, number_of, total, ranks, earlier}

-- rank for rank the first list is no later than the second
pub data NoLater : List ℕ → List ℕ → Type 0 where
  end : NoLater [] []
  step : {a b : ℕ} {l m : List ℕ} → a ≤ b → NoLater l m → NoLater (a ∷ l) (b ∷ m)

-- ---- it comes first

pub comes_first : {l m : List ℕ} → NoLater l m → (l ≡ m) ⊎ (earlier l m ≡ true)
comes_first end = inl refl
comes_first (step {a} {b} {l} {m} h n) = by (eqb a b) refl (comes_first n)
  where
    by : (c : Bool) → eqb a b ≡ c → (l ≡ m) ⊎ (earlier l m ≡ true) → (a ∷ l ≡ b ∷ m) ⊎ (cond c (earlier l m) (ltb a b) ≡ true)
    by true e (inl f) = inl (ap₂ ◌∷◌ (eqb-true a b e) f)
    by true e (inr f) = inr f
    by false e r = inr (lt-ltb a b (omega (arith, eqb-false a b e)))

-- ---- it has the larger total, of numbers of any size that never rise

none_above : (v : ℕ) (l : List ℕ) → all (λ w. leb w v) l ≡ true → (i : ℕ) → get_or l i 0 ≤ v
none_above v [] h i = omega arith
none_above v (w ∷ l) h zero = leb-true w v (both_left (leb w v) _ h)
none_above v (w ∷ l) h (suc i) = none_above v l (both_right (leb w v) _ h) i

falling : (l : List ℕ) → never_rising l ≡ true → (i j : ℕ) → i ≤ j → get_or l j 0 ≤ get_or l i 0
falling [] h i j n = omega arith
falling (v ∷ l) h zero zero n = omega arith
falling (v ∷ l) h zero (suc j) n = none_above v l (both_left (all (λ w. leb w v) l) _ h) j
falling (v ∷ l) h (suc i) zero n = absurd (omega arith)
falling (v ∷ l) h (suc i) (suc j) n = falling l (both_right (all (λ w. leb w v) l) _ h) i j (le_of_suc-le-suc n)

module _ (numbers : List ℕ) where
  abbrev total_at : List ℕ → ℕ
  total_at l = sum_over (λ r. get_or numbers (r - 1) 0) l

  total_at_lem : (ranked J : List ℕ) → total ranked numbers J ≡ total_at (ranks ranked J)
  total_at_lem ranked [] = refl
  total_at_lem ranked (p ∷ J) = ap (λ t. number_of ranked numbers p + t) (total_at_lem ranked J)

  larger_at : never_rising numbers ≡ true → {l m : List ℕ} → NoLater l m → total_at m ≤ total_at l
  larger_at h end = omega arith
  larger_at h (step {a} {b} k n) = omega (arith, falling numbers h (a - 1) (b - 1) (omega arith), larger_at h n)

  pub larger_total : never_rising numbers ≡ true → (ranked J K : List ℕ) → NoLater (ranks ranked J) (ranks ranked K) → total ranked numbers K ≤ total ranked numbers J
  larger_total h ranked J K n = omega (arith, larger_at h n, total_at_lem ranked J, total_at_lem ranked K)

-- ---- ranks that rise, from a on

pub data Rising : ℕ → List ℕ → Type 0 where
  end : {a : ℕ} → Rising a []
  step : {a b : ℕ} {l : List ℕ} → a ≤ b → Rising (suc b) l → Rising a (b ∷ l)

pub rising_from : {a b : ℕ} {l : List ℕ} → a ≤ b → Rising b l → Rising a l
rising_from h end = end
rising_from h (step k r) = step (le_trans h k) r

pub rising_suc : {a : ℕ} {l : List ℕ} → Rising a l → Rising (suc a) (map suc l)
rising_suc end = end
rising_suc (step h r) = step (suc-le-suc h) (rising_suc r)

-- a, a + 1, .. and so on, n of them
abbrev pub from : ℕ → ℕ → List ℕ
from a zero = []
from a (suc n) = a ∷ from (suc a) n

pub from_suc : (a n : ℕ) → map suc (from a n) ≡ from (suc a) n
from_suc a zero = refl
from_suc a (suc n) = ap (λ l. suc a ∷ l) (from_suc (suc a) n)

-- the i-th of them is at least i
at_least : {d a : ℕ} {l : List ℕ} → d ≤ a → Rising a l → NoLater (from d (length l)) l
at_least n end = end
at_least n (step h r) = step (le_trans n h) (at_least (suc-le-suc (le_trans n h)) r)

pub none_before : (a : ℕ) {l : List ℕ} {n : ℕ} → length l ≡ n → Rising a l → NoLater (from a n) l
none_before a {l} e r = subst (λ n. NoLater (from a n) l) e (at_least (le_refl a) r)

-- and where one of them is at least e, the last is
past_first : {b c d e : ℕ} {l : List ℕ} → suc b ≤ d → In c (b ∷ d ∷ l) → e ≤ c → (f : ℕ) × In f (d ∷ l) × (e ≤ f)
past_first {b} {c} {d} {e} {l} g i h = by (cases_cons i)
  where
    by : (c ≡ b) ⊎ In c (d ∷ l) → (f : ℕ) × In f (d ∷ l) × (e ≤ f)
    by (inl same) = (d, here refl, omega arith)
    by (inr j) = (c, j, h)

last_at_least : {d a b c e : ℕ} {l : List ℕ} → d ≤ a → Rising a (b ∷ l) → In c (b ∷ l) → e ≤ c → NoLater (from d (length l) ++ e ∷ []) (b ∷ l)
last_at_least {e = e} n (step k end) i h = step (subst (λ c. e ≤ c) (in-single i) h) end
last_at_least {d = d} {c = c'} {e = e} n (step {a = a} {b = b} k (step {b = b'} {l = l} g r)) i h =
    let (c, more, least) = past_first g i h in
    step (le_trans n k) (last_at_least {d = suc d} (suc-le-suc (le_trans n k)) (step g r) more least)

pub none_before_last : (a : ℕ) (l : List ℕ) {c e n : ℕ} → length l ≡ suc n → Rising a l → In c l → e ≤ c → NoLater (from a n ++ e ∷ []) l
none_before_last a [] n r i h = absurd (omega arith)
none_before_last a (b ∷ l) {e = e} {n = m} n r i h =
    let same : length l ≡ m = omega arith in
    subst (λ n. NoLater (from a n ++ e ∷ []) (b ∷ l)) same (last_at_least (le_refl a) r i h)
