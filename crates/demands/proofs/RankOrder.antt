-- Places in rank order: what is left of a ranking when some places are taken out. Its ranks rise, and it is what a choice of these places gives, written in rank order.
use Prim.Native.Nat.{ℕ, zero, suc, ◌-◌, ◌<◌, ◌≤◌, suc-le-suc}
use mathlib.Core.Path.{◌≡◌, refl, sym, ◌∙◌, ap, ap₂}
use mathlib.Core.Bool.{Bool, true, false, cond, ◌||◌}
use mathlib.Core.List.Memᴰ.{cast as in-as}
use mathlib.Core.List.{List, [], ◌∷◌, ◌++◌, map, map-append}
use mathlib.Core.List.Memᴰ.{head as here}
use mathlib.Core.List.Memᴰ.{tail as there}
use mathlib.Core.List.{Memᴰ as In}
use native.Mathlib.Nat.{le_refl, le_of_suc-le-suc}
use native.Mathlib.Omega.{arith}
use lib.Dec.{eqb}
use lib.ListN.{length, get_or, take}
use borrow.Author.Tests.{eqb-true, eq-eqb, ne_eqb}
use Rattle.basics.specs.Lists.{filter}
use Rattle.elliptic.proofs.Points.{All.nil, All.cons}
use Rattle.codewords.proofs.Tests.{in_all, all_in_lem, any_true, true_any, filter_same, fails}
use Rattle.codewords.proofs.Counting.{Apart, Unique, Unique.none, Unique.add}
use Rattle.codewords.proofs.Places.{all_at}
use Rattle.demands.specs.Ranking.{is_in, rank, in_rank_order, ranks}
use Rattle.demands.proofs.RankLists.{Rising, Rising.end, Rising.step, rising_from, rising_suc, from, from_suc}

pub in_true : {p : ℕ} {l : List ℕ} → In p l → is_in l p ≡ true
in_true {p} i = true_any (eqb p) i (eq-eqb p p refl)

pub true_in : {p : ℕ} (l : List ℕ) → is_in l p ≡ true → In p l
true_in {p} l h = let (r, i, e) = any_true (eqb p) l h in in-as (eqb-true p r e) i

-- l is what is left of m
pub data Kept : List ℕ → List ℕ → Type 0 where
  empty : Kept [] []
  keep : {p : ℕ} {l m : List ℕ} → Kept l m → Kept (p ∷ l) (p ∷ m)
  skip : {p : ℕ} {l m : List ℕ} → Kept l m → Kept l (p ∷ m)

-- ---- the places that pass a test, the first j, and the first j and the one after the next

pub kept_filter : (t : ℕ → Bool) (m : List ℕ) → Kept (filter t m) m
kept_filter t [] = empty
kept_filter t (p ∷ m) = by (t p) (kept_filter t m)
  where
    by : (b : Bool) → Kept (filter t m) m → Kept (cond b (p ∷ filter t m) (filter t m)) (p ∷ m)
    by true k = keep k
    by false k = skip k

kept_none : (m : List ℕ) → Kept [] m
kept_none [] = empty
kept_none (p ∷ m) = skip (kept_none m)

pub kept_take : (j : ℕ) (m : List ℕ) → Kept (take j m) m
kept_take zero m = kept_none m
kept_take (suc j) [] = empty
kept_take (suc j) (p ∷ m) = keep (kept_take j m)

pub kept_next : (j : ℕ) (m : List ℕ) → suc j < length m → Kept (take j m ++ get_or m (suc j) 0 ∷ []) m
kept_next j [] h = absurd (omega arith)
kept_next zero (p ∷ []) h = absurd (omega arith)
kept_next zero (p ∷ r ∷ m) h = skip (keep (kept_none m))
kept_next (suc j) (p ∷ m) h = keep (kept_next j m (le_of_suc-le-suc h))

-- ---- nothing is added

pub kept_in_lem : {l m : List ℕ} {p : ℕ} → Kept l m → In p l → In p m
kept_in_lem {p = p} empty i = elim i [ ]
kept_in_lem (keep k) (here e) = here e
kept_in_lem (keep k) (there i) = there (kept_in_lem k i)
kept_in_lem (skip k) i = there (kept_in_lem k i)

kept_apart : {p : ℕ} {l m : List ℕ} → Kept l m → Apart p m → Apart p l
kept_apart {l = l} k h = all_in_lem l (λ r i. in_all (kept_in_lem k i) h)

-- ---- its ranks rise

rank_first : (r : ℕ) (m : List ℕ) → rank (r ∷ m) r ≡ 1
rank_first r m = ap (λ b. cond b 1 (suc (rank m r))) (eq-eqb r r refl)

rank_later : (r : ℕ) (m : List ℕ) {p : ℕ} → (r ≡ p → ⊥) → rank (r ∷ m) p ≡ suc (rank m p)
rank_later r m {p} h = ap (λ b. cond b 1 (suc (rank m p))) (ne_eqb p r (λ e. h (sym e)))

ranks_later : (r : ℕ) (m : List ℕ) {l : List ℕ} → Apart r l → ranks (r ∷ m) l ≡ map suc (ranks m l)
ranks_later r m nil = refl
ranks_later r m (cons h hs) = ap₂ ◌∷◌ (rank_later r m h) (ranks_later r m hs)

pub kept_rising : {l m : List ℕ} → Unique m → Kept l m → Rising 1 (ranks m l)
kept_rising none empty = end
kept_rising (add {a = r} {l = m} h u) (keep k) =
    rw (rank_first r m, ranks_later r m (kept_apart k h)) (step (le_refl 1) (rising_suc (kept_rising u k)))
kept_rising (add {a = r} {l = m} h u) (skip k) = rw (ranks_later r m (kept_apart k h)) (rising_from (omega arith) (rising_suc (kept_rising u k)))

-- the first j places have ranks 1 to j, and the place at index i has rank i + 1
pub ranks_take : {m : List ℕ} → Unique m → (j : ℕ) → j ≤ length m → ranks m (take j m) ≡ from 1 j
ranks_take u zero h = refl
ranks_take none (suc j) h = absurd (omega arith)
ranks_take (add {a = r} {l = m} a u) (suc j) h =
    ap₂ ◌∷◌ (rank_first r m) (ranks_later r m (kept_apart (kept_take j m) a) ∙ ap (map suc) (ranks_take u j (le_of_suc-le-suc h)) ∙ from_suc 1 j)

rank_at : {m : List ℕ} → Unique m → (i : ℕ) → i < length m → rank m (get_or m i 0) ≡ suc i
rank_at none i h = absurd (omega arith)
rank_at (add {a = r} {l = m} a u) zero h = rank_first r m
rank_at (add {a = r} {l = m} a u) (suc i) h = rank_later r m (all_at 0 a i (le_of_suc-le-suc h)) ∙ ap suc (rank_at u i (le_of_suc-le-suc h))

pub ranks_next : {m : List ℕ} → Unique m → (j i : ℕ) → j ≤ length m → i < length m → ranks m (take j m ++ get_or m i 0 ∷ []) ≡ from 1 j ++ suc i ∷ []
ranks_next {m} u j i h k = map-append (rank m) (take j m) (get_or m i 0 ∷ []) ∙ ap₂ ◌++◌ (ranks_take u j h) (ap (λ r. r ∷ []) (rank_at u i k))

-- a place that is not among the first j has a rank past j
rank_least : (m : List ℕ) (p : ℕ) → 1 ≤ rank m p
rank_least [] p = le_refl 1
rank_least (r ∷ m) p = by (eqb p r)
  where
    by : (b : Bool) → 1 ≤ cond b 1 (suc (rank m p))
    by true = le_refl 1
    by false = omega arith

pub rank_past : (j : ℕ) (m : List ℕ) {p : ℕ} → j ≤ length m → (In p (take j m) → ⊥) → j < rank m p
rank_past zero m {p} h n = rank_least m p
rank_past (suc j) [] h n = absurd (omega arith)
rank_past (suc j) (r ∷ m) h n = rw (rank_later r m (λ e. n (here (sym e)))) (suc-le-suc (rank_past j m (le_of_suc-le-suc h) (λ i. n (there i))))

-- ---- a choice of its places, written in rank order, is it

pub kept_order : {l m : List ℕ} → Unique m → Kept l m → in_rank_order m l ≡ l
kept_order none empty = refl
kept_order (add {a = r} {l = m} h u) (keep {l = l} k) =
    let later = filter_same (is_in (r ∷ l)) (is_in l) m (λ p i. ap (λ b. b || is_in l p) (ne_eqb p r (λ e. in_all i h (sym e)))) in
    rw (in_true {l = r ∷ l} (here refl)) (ap (λ l. r ∷ l) (later ∙ kept_order u k))
kept_order (add {a = r} h u) (skip {l = l} k) = rw (fails (is_in l r) (λ t. in_all (kept_in_lem k (true_in l t)) h refl)) (kept_order u k)

-- ---- its ranks give it back

place_at_lem : {p : ℕ} {m : List ℕ} → In p m → get_or m (rank m p - 1) 0 ≡ p
place_at_lem {p} (here {x = r} e) = rw (eq-eqb p r e) (sym e)
place_at_lem {p} (there {x = r} {xs = m} i) = by (eqb p r) refl (place_at_lem i)
  where
    by : (b : Bool) → eqb p r ≡ b → get_or m (rank m p - 1) 0 ≡ p → get_or (r ∷ m) (cond b 1 (suc (rank m p)) - 1) 0 ≡ p
    by true e h = sym (eqb-true p r e)
    by false e h = let later : suc (rank m p) - 1 ≡ suc (rank m p - 1) = omega (arith, rank_least m p) in ap (λ i. get_or (r ∷ m) i 0) later ∙ h

places_at : {m : List ℕ} (l : List ℕ) → ((p : ℕ) → In p l → In p m) → map (λ r. get_or m (r - 1) 0) (ranks m l) ≡ l
places_at [] h = refl
places_at (p ∷ l) h = ap₂ ◌∷◌ (place_at_lem (h p (here refl))) (places_at l (λ r i. h r (there i)))

pub same_ranks : {l n m : List ℕ} → Kept l m → Kept n m → ranks m l ≡ ranks m n → l ≡ n
same_ranks {l} {n} {m} k j e =
    sym (places_at l (λ p i. kept_in_lem k i)) ∙ ap (map (λ r. get_or m (r - 1) 0)) e ∙ places_at n (λ p i. kept_in_lem j i)
