-- The first and the other elements of lists: in an append, in `each` with lists of one length, and without repetition.
use Prim.Native.Nat.{ℕ, zero, suc, ◌+◌, ◌*◌, ◌-◌, ◌<◌, ◌≤◌}
use mathlib.Core.Path.{◌≡◌, refl, sym, ◌∙◌, ap, subst}
use mathlib.Core.Logic.{◌⊎◌, inl, inr}
use mathlib.Core.List.Memᴰ.{append_cases as in-append}
use mathlib.Core.List.Memᴰ.{append_left as in_append_left}
use mathlib.Core.List.Memᴰ.{append_right as in_append_right}
use mathlib.Core.List.Memᴰ.{head as here}
use mathlib.Core.List.Memᴰ.{tail as there}
use mathlib.Core.List.{List, [], ◌∷◌, ◌++◌, Memᴰ as In}
use native.Mathlib.Omega.{arith}
use native.Mathlib.Nat.{le_of_suc-le-suc, suc-mul, zero-mul}
use lib.ListN.{length, get_or, take, drop, take-append-drop}
use lib.Seq.{take-append-add, drop-append-add}
use Rattle.elliptic.proofs.Points.{All, All.nil, All.cons}
use Rattle.codewords.proofs.Tests.{in_all}
use Rattle.codewords.proofs.Counting.{Unique, Unique.none, Unique.add}
use Rattle.patterns.specs.Patterns.{each}
use Rattle.patterns.proofs.Each.{in_each}

module _ {A : Type 0} where
  -- ---- the first n, and the others

  pub in_take : {a : A} (m n : ℕ) (l : List A) → m ≤ n → In a (take m l) → In a (take n l)
  in_take zero n l h i = elim i [ ]
  in_take (suc m) zero l h i = absurd (omega arith)
  in_take (suc m) (suc n) [] h i = i
  in_take (suc m) (suc n) (x ∷ l) h (here e) = here e
  in_take (suc m) (suc n) (x ∷ l) h (there i) = there (in_take m n l (le_of_suc-le-suc h) i)

  pub in_at : (d : A) (l : List A) (i : ℕ) → i < length l → In (get_or l i d) l
  in_at d [] i h = absurd (omega arith)
  in_at d (x ∷ l) zero h = here refl
  in_at d (x ∷ l) (suc i) h = there (in_at d l i (le_of_suc-le-suc h))

  -- element m is not among the first r
  in_others : (d : A) (r m : ℕ) (l : List A) → r ≤ m → m < length l → In (get_or l m d) (drop r l)
  in_others d zero m l h k = in_at d l m k
  in_others d (suc r) zero l h k = absurd (omega arith)
  in_others d (suc r) (suc m) [] h k = absurd (omega arith)
  in_others d (suc r) (suc m) (x ∷ l) h k = in_others d r m l (le_of_suc-le-suc h) (le_of_suc-le-suc k)

  pub all_take : {P : A → Type 0} (n : ℕ) {l : List A} → All P l → All P (take n l)
  all_take zero h = nil
  all_take (suc n) nil = nil
  all_take (suc n) (cons h hs) = cons h (all_take n hs)

  pub take_or_drop : {a : A} (n : ℕ) (l : List A) → In a l → In a (take n l) ⊎ In a (drop n l)
  take_or_drop {a} n l i = in-append (take n l) (subst (λ l. In a l) (sym (take-append-drop n l)) i)

  pub take_in : {a : A} (n : ℕ) (l : List A) → In a (take n l) → In a l
  take_in {a} n l i = subst (λ l. In a l) (take-append-drop n l) (in_append_left (drop n l) i)

  pub drop_in : {a : A} (n : ℕ) (l : List A) → In a (drop n l) → In a l
  drop_in {a} n l i = subst (λ l. In a l) (take-append-drop n l) (in_append_right (take n l) i)

  pub unique_take : (n : ℕ) {l : List A} → Unique l → Unique (take n l)
  unique_take zero u = none
  unique_take (suc n) none = none
  unique_take (suc n) (add h u) = add (all_take n h) (unique_take n u)

  -- ---- of an append

  pub take_left : {a : A} (n : ℕ) (l r : List A) → In a (take n l) → In a (take n (l ++ r))
  take_left zero l r i = elim i [ ]
  take_left (suc n) [] r i = elim i [ ]
  take_left (suc n) (x ∷ l) r (here e) = here e
  take_left (suc n) (x ∷ l) r (there i) = there (take_left n l r i)

  pub take_right : {a : A} (n : ℕ) (l r : List A) → In a (take (n - length l) r) → In a (take n (l ++ r))
  take_right {a} n [] r i = let e : n - 0 ≡ n = omega arith in subst (λ m. In a (take m r)) e i
  take_right {a} zero (x ∷ l) r i = let e : 0 - suc (length l) ≡ 0 = omega arith in elim (subst (λ m. In a (take m r)) e i) [ ]
  take_right {a} (suc n) (x ∷ l) r i = let e : suc n - suc (length l) ≡ n - length l = omega arith in there (take_right n l r (subst (λ m. In a (take m r)) e i))

  pub drop_left : {a : A} (n : ℕ) (l r : List A) → In a (drop n l) → In a (drop n (l ++ r))
  drop_left zero l r i = in_append_left r i
  drop_left (suc n) [] r i = elim i [ ]
  drop_left (suc n) (x ∷ l) r i = drop_left n l r i

  pub drop_right : {a : A} (n : ℕ) (l r : List A) → In a (drop (n - length l) r) → In a (drop n (l ++ r))
  drop_right {a} n [] r i = let e : n - 0 ≡ n = omega arith in subst (λ m. In a (drop m r)) e i
  drop_right {a} zero (x ∷ l) r i = let e : 0 - suc (length l) ≡ 0 = omega arith in in_append_right (x ∷ l) (subst (λ m. In a (drop m r)) e i)
  drop_right {a} (suc n) (x ∷ l) r i = let e : suc n - suc (length l) ≡ n - length l = omega arith in drop_right n l r (subst (λ m. In a (drop m r)) e i)

  -- the others of an append: those of the first list, or of the second
  pub drop_append : {a : A} (n : ℕ) (l r : List A) → In a (drop n (l ++ r)) → In a (drop n l) ⊎ In a (drop (n - length l) r)
  drop_append {a} n [] r i = let e : n - 0 ≡ n = omega arith in inr (subst (λ m. In a (drop m r)) (sym e) i)
  drop_append {a} zero (x ∷ l) r i = by (in-append (x ∷ l) i)
    where
      by : In a (x ∷ l) ⊎ In a r → In a (x ∷ l) ⊎ In a (drop (0 - suc (length l)) r)
      by (inl j) = inl j
      by (inr j) = let e : 0 - suc (length l) ≡ 0 = omega arith in inr (subst (λ m. In a (drop m r)) (sym e) j)
  drop_append {a} (suc n) (x ∷ l) r i = by (drop_append n l r i)
    where
      by : In a (drop n l) ⊎ In a (drop (n - length l) r) → In a (drop n l) ⊎ In a (drop (suc n - suc (length l)) r)
      by (inl j) = inl j
      by (inr j) = let e : suc n - suc (length l) ≡ n - length l = omega arith in inr (subst (λ m. In a (drop m r)) (sym e) j)

  -- ---- without repetition

  pub unique_parts : {a : A} (n : ℕ) {l : List A} → Unique l → In a (take n l) → In a (drop n l) → ⊥
  unique_parts zero u i j = elim i [ ]
  unique_parts (suc n) none i j = elim i [ ]
  unique_parts (suc n) (add {l = l} h u) (here e) j = in_all (drop_in n l j) h (sym e)
  unique_parts (suc n) (add h u) (there i) j = unique_parts n u i j

-- ---- of lists of one length s, one after the other

module _ {A B : Type 0} (f : A → List B) (s : ℕ) (sizes : (a : A) → length (f a) ≡ s) where
  each_take : (m : ℕ) (l : List A) → take (m * s) (each l f) ≡ each (take m l) f
  each_take zero l = ap (λ n. take n (each l f)) (zero-mul s)
  each_take (suc m) [] = take_none (suc m * s)
    where
      take_none : (n : ℕ) → ◌≡◌ {A = List B} (take n []) []
      take_none zero = refl
      take_none (suc n) = refl
  each_take (suc m) (a ∷ l) =
      let e : suc m * s ≡ length (f a) + m * s = omega (arith, suc-mul m s, sizes a) in
      ap (λ n. take n (f a ++ each l f)) e ∙ take-append-add (f a) (each l f) (m * s) ∙ ap (λ r. f a ++ r) (each_take m l)

  -- an element of one of the first m lists is among the first t
  pub in_first : (m t : ℕ) (l : List A) → m * s ≤ t → {a : A} {b : B} → In a (take m l) → In b (f a) → In b (take t (each l f))
  in_first m t l h {b = b} i j = in_take (m * s) t (each l f) h (subst (λ l. In b l) (sym (each_take m l)) (in_each f i j))

  each_drop : (m r : ℕ) (l : List A) → drop (m * s + r) (each l f) ≡ drop r (each (drop m l) f)
  each_drop zero r l = let e : 0 * s + r ≡ r = omega (arith, zero-mul s) in ap (λ n. drop n (each l f)) e
  each_drop (suc m) r [] = drop_none (suc m * s + r) ∙ sym (drop_none r)
    where
      drop_none : (n : ℕ) → ◌≡◌ {A = List B} (drop n []) []
      drop_none zero = refl
      drop_none (suc n) = refl
  each_drop (suc m) r (a ∷ l) =
      let e : suc m * s + r ≡ length (f a) + (m * s + r) = omega (arith, suc-mul m s, sizes a) in
      ap (λ n. drop n (f a ++ each l f)) e ∙ drop-append-add (f a) (each l f) (m * s + r) ∙ each_drop m r l

  -- every list but the first m has an element that is not among the first m * s + r
  pub has_other : (d : B) (m r : ℕ) (l : List A) → r < s → {a : A} → In a (drop m l) → (b : B) × In b (f a) × In b (drop (m * s + r) (each l f))
  has_other d m r l h {a} i = (b, in_at d (f a) (s - 1) (omega (arith, sizes a)), subst (λ l. In b l) (sym (each_drop m r l)) (go i))
    where
      b : B
      b = get_or (f a) (s - 1) d

      go : {k : List A} → In a k → In b (drop r (each k f))
      go (here {x = c} {xs = k} e) =
          drop_left r (f c) (each k f)
          (subst (λ x. In b (drop r (f x))) e (in_others d r (s - 1) (f a) (omega arith) (omega (arith, sizes a))))
      go (there {x = c} {xs = k} j) =
          let e : r - length (f c) ≡ 0 = omega (arith, sizes c) in
          drop_right r (f c) (each k f) (subst (λ m. In b (drop m (each k f))) (sym e) (in_each f j (in_at d (f a) (s - 1) (omega (arith, sizes a)))))
