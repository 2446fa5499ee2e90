-- The rule of Pick, step by step: it keeps the first k − 1 ranks, then the next if these are usable, and otherwise the one after it.
use Prim.Native.Nat.{ℕ, suc, ◌+◌, ◌<◌}
use mathlib.Core.Path.{◌≡◌, refl, sym, ◌∙◌, ap, ap₂, subst}
use mathlib.Core.Bool.{Bool, true, false, cond}
use mathlib.Core.List.{List, [], ◌∷◌, ◌++◌, append-nil, append_assoc}
use native.Mathlib.Omega.{arith}
use lib.ListN.{length}
use borrow.Author.Tests.{eq-eqb, ne_eqb}
use Rattle.elliptic.proofs.Points.{All, All.nil, All.cons, all_head, all_tail}
use Rattle.codewords.specs.Code.{Code}
use Rattle.codewords.specs.Codewords.{dependent, takes_all, keep, pick}
use Rattle.codewords.proofs.Counting.{Unique, Unique.none, Unique.add}
use Rattle.codewords.proofs.Accepted.{Accepted}
use Rattle.codewords.proofs.Places.{Places}
use Rattle.codewords.proofs.Taking.{length_snoc, takes_few, takes_usable, takes_not, other_usable}

-- ---- parts of a list of different places

module _ {A : Type 0} where
  module _ {P : A → Type 0} where
    all_left : (l m : List A) → All P (l ++ m) → All P l
    all_left [] m h = nil
    all_left (a ∷ l) m (cons h hs) = cons h (all_left l m hs)

    all_right : (l m : List A) → All P (l ++ m) → All P m
    all_right [] m h = h
    all_right (a ∷ l) m (cons h hs) = all_right l m hs

    pub all_join : {l m : List A} → All P l → All P m → All P (l ++ m)
    all_join nil k = k
    all_join (cons h hs) k = cons h (all_join hs k)

    -- an element is left out
    all_but : (l : List A) (a : A) (m : List A) → All P (l ++ a ∷ m) → All P (l ++ m)
    all_but l a m h = all_join (all_left l (a ∷ m) h) (all_tail (all_right l (a ∷ m) h))

  unique_left : (l m : List A) → Unique (l ++ m) → Unique l
  unique_left [] m u = none
  unique_left (a ∷ l) m (add h u) = add (all_left l m h) (unique_left l m u)

  -- an element goes to the front
  unique_front : (l : List A) (a : A) (m : List A) → Unique (l ++ a ∷ m) → Unique (a ∷ (l ++ m))
  unique_front [] a m u = u
  unique_front (b ∷ l) a m (add h u) = by (unique_front l a m u)
    where
      by : Unique (a ∷ (l ++ m)) → Unique (a ∷ b ∷ (l ++ m))
      by (add k v) = add (cons (λ e. all_head (all_right l (a ∷ m) h) (sym e)) k) (add (all_but l a m h) v)

  unique_tail : {a : A} {l : List A} → Unique (a ∷ l) → Unique l
  unique_tail (add h u) = u

module _ (code : Code) where
  pub places_left : (K R : List ℕ) → Places code (K ++ R) → Places code K
  places_left K R P = record { spots = all_left K R P.spots; unique = unique_left K R P.unique }

  places_front : (K : List ℕ) (p : ℕ) (R : List ℕ) → Places code (K ++ p ∷ R) → Places code (p ∷ (K ++ R))
  places_front K p R P =
      record { spots = cons (all_head (all_right K (p ∷ R) P.spots)) (all_but K p R P.spots); unique = unique_front K p R P.unique }

  places_tail : {p : ℕ} {K : List ℕ} → Places code (p ∷ K) → Places code K
  places_tail P = record { spots = all_tail P.spots; unique = unique_tail P.unique }

  -- the first places and the one after them
  pub places_snoc : (K : List ℕ) (p : ℕ) (R : List ℕ) → Places code (K ++ p ∷ R) → Places code (K ++ p ∷ [])
  places_snoc K p R P = places_left (K ++ p ∷ []) R (subst (λ l. Places code l) (sym (append_assoc K (p ∷ []) R)) P)

  -- ---- the rule, by cases

  keep_full : (K R : List ℕ) → length K ≡ code.k → keep code K R ≡ K
  unfolding keep
  keep_full K [] e = refl
  keep_full K (p ∷ R) e = ap (λ b. cond b K (cond (takes_all code (K ++ p ∷ [])) (keep code (K ++ p ∷ []) R) (keep code K R))) (eq-eqb _ _ e)

  keep_step : (K : List ℕ) (p : ℕ) (R : List ℕ) (b : Bool) → length K < code.k → takes_all code (K ++ p ∷ []) ≡ b
      → keep code K (p ∷ R) ≡ cond b (keep code (K ++ p ∷ []) R) (keep code K R)
  unfolding keep
  keep_step K p R b h t = ap₂ (λ b c. cond b K (cond c (keep code (K ++ p ∷ []) R) (keep code K R))) (ne_eqb (length K) code.k (λ e. omega arith)) t

module _ (code : Code) (a : Accepted code) where
  -- as long as fewer than k are kept, the next is
  keep_few : (L K R : List ℕ) → length K + length L < code.k → Places code (K ++ L) → keep code K (L ++ R) ≡ keep code (K ++ L) R
  keep_few [] K R h P = ap (λ l. keep code l R) (sym (append-nil K))
  keep_few (p ∷ L) K R h P =
      let P' : Places code ((K ++ p ∷ []) ++ L) = subst (λ l. Places code l) (sym (append_assoc K (p ∷ []) L)) P in
      keep_step code K p (L ++ R) true (omega arith) (takes_few code a (places_left code (K ++ p ∷ []) L P') (omega (arith, length_snoc K p)))
      ∙ keep_few L (K ++ p ∷ []) R (omega (arith, length_snoc K p)) P'
      ∙ ap (λ l. keep code l R) (append_assoc K (p ∷ []) L)

  -- K is ranks 1 to k − 1
  module _ (K : List ℕ) (n : suc (length K) ≡ code.k) where
    pub full : (p : ℕ) → length (K ++ p ∷ []) ≡ code.k
    full p = length_snoc K p ∙ n

    pick_start : (R : List ℕ) → Places code K → pick code (K ++ R) ≡ keep code K R
    unfolding pick
    pick_start R P = keep_few K [] R (omega arith) P

    -- a usable next place ends it
    keep_last : (p : ℕ) (R : List ℕ) → Places code (K ++ p ∷ []) → dependent code (K ++ p ∷ []) ≡ false → keep code K (p ∷ R) ≡ K ++ p ∷ []
    keep_last p R P d = keep_step code K p R true (omega arith) (takes_usable code a P (full p) d) ∙ keep_full code (K ++ p ∷ []) R (full p)

    module _ (p : ℕ) (R : List ℕ) (P : Places code (K ++ p ∷ R)) where
      pub pick_first : dependent code (K ++ p ∷ []) ≡ false → pick code (K ++ p ∷ R) ≡ K ++ p ∷ []
      pick_first d = pick_start (p ∷ R) (places_left code K (p ∷ R) P) ∙ keep_last p R (places_snoc code K p R P) d

      pub pick_without : dependent code (K ++ p ∷ []) ≡ true → pick code (K ++ p ∷ R) ≡ keep code K R
      pick_without d =
          pick_start (p ∷ R) (places_left code K (p ∷ R) P)
          ∙ keep_step code K p R false (omega arith) (takes_not code a (places_snoc code K p R P) (full p) d)

    -- where rank k makes them dependent, rank k + 1 does not
    pub pick_next : (p r : ℕ) (R : List ℕ) → Places code (K ++ p ∷ r ∷ R) → dependent code (K ++ p ∷ []) ≡ true
        → (dependent code (K ++ r ∷ []) ≡ false) × Places code (K ++ r ∷ []) × (pick code (K ++ p ∷ r ∷ R) ≡ K ++ r ∷ [])
    pick_next p r R P d =
        let Kpr : Places code (K ++ p ∷ r ∷ []) = places_left code (K ++ p ∷ r ∷ []) R (subst (λ l. Places code l) (sym (append_assoc K (p ∷ r ∷ []) R)) P) in
        let front = places_front code K p (r ∷ []) Kpr in
        let Kr = places_tail code front in
        let u = other_usable code a K p r (places_snoc code K p (r ∷ R) P) Kr front n d in
        (u, Kr, pick_without p (r ∷ R) P d ∙ keep_last r R Kr u)
