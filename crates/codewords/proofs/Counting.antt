-- Lists without repetition, and the comparison of sums over them and of their lengths: this is how codewords and functions are counted.
use Prim.Native.Nat.{ℕ, suc, ◌+◌, ◌≤◌, zero-le}
use mathlib.Core.Path.{◌≡◌, refl, sym, ◌∙◌, ap}
use mathlib.Core.Bool.{Bool, true, false, not, cond}
use mathlib.Core.Logic.{◌⊎◌, inl, inr}
use mathlib.Core.List.Memᴰ.{append_cases as in-append}
use mathlib.Core.List.Memᴰ.{cases_cons}
use mathlib.Core.List.Memᴰ.{head as here}
use mathlib.Core.List.Memᴰ.{of_map as map-in}
use mathlib.Core.List.Memᴰ.{tail as there}
use mathlib.Core.List.{List, [], ◌∷◌, ◌++◌, map, Memᴰ as In}
use native.Mathlib.Nat.{le_antisymm}
use native.Mathlib.Omega.{arith}
use lib.ListN.{length}
use borrow.Author.Tests.{not-true}
use Rattle.basics.specs.Lists.{all, filter, different, sum_over}
use Rattle.basics.proofs.Lists.{both_left, both_right, both_true}
use Rattle.elliptic.proofs.Points.{All, All.nil, All.cons, all_map}
use Rattle.codewords.proofs.Tests.{fails, in_all, all_in_lem, all_true, true_all, filter_in}

module _ {A : Type 0} where
  abbrev pub Apart : A → List A → Type 0
  Apart a l = All (λ b. a ≡ b → ⊥) l

  -- no element stands twice
  pub data Unique : List A → Type 0 where
    none : Unique []
    add : {a : A} {l : List A} → Apart a l → Unique l → Unique (a ∷ l)

  pub unique_append : {l m : List A} → Unique l → Unique m → ((a : A) → In a l → In a m → ⊥) → Unique (l ++ m)
  unique_append none v n = v
  unique_append {m = m} (add {a} {l} h u) v n =
      add
      (all_in_lem (l ++ m) (λ b i e. apart b e (in-append l i)))
      (unique_append u v (λ b i j. n b (there i) j))
    where
      apart : (b : A) → a ≡ b → In b l ⊎ In b m → ⊥
      apart b e (inl i) = in_all i h e
      apart b e (inr i) = n b (here (sym e)) i

  pub unique_filter : (p : A → Bool) {l : List A} → Unique l → Unique (filter p l)
  unique_filter p none = none
  unique_filter p (add {a} {l} h u) = by (p a) (unique_filter p u)
    where
      by : (c : Bool) → Unique (filter p l) → Unique (cond c (a ∷ filter p l) (filter p l))
      by true v = add (all_in_lem (filter p l) (λ b i. in_all (filter_in p l i).0 h)) v
      by false v = v

  -- the test of no repetition, by a test of sameness that says what it should
  module _ (same : A → A → Bool) where
    pub different_unique : ((a b : A) → same a b ≡ false → a ≡ b → ⊥) → (l : List A) → different same l ≡ true → Unique l
    different_unique h [] e = none
    different_unique h (a ∷ l) e =
        add
        (all_map (λ b g. h a b (not-true _ g)) (all_true (λ b. not (same a b)) l (both_left _ (different same l) e)))
        (different_unique h l (both_right (all (λ b. not (same a b)) l) _ e))

    pub unique_different : ((a b : A) → same a b ≡ true → a ≡ b) → {l : List A} → Unique l → different same l ≡ true
    unique_different h none = refl
    unique_different h (add {a} {l} d u) =
        both_true (all (λ b. not (same a b)) l) (different same l)
        (true_all (all_map (λ b n. ap not (fails (same a b) (λ e. n (h a b e)))) d)) (unique_different h u)

  -- ---- how many

  pub empty : (l : List A) → ((a : A) → In a l → ⊥) → l ≡ []
  empty [] n = refl
  empty (a ∷ l) n = absurd (n a (here refl))

  -- a list without repetition that holds x and nothing else
  pub only : (x : A) {l : List A} → Unique l → In x l → ((y : A) → In y l → y ≡ x) → l ≡ x ∷ []
  only x none i f = elim i [ ]
  only x (add {a} nil u) i f = ap (λ y. y ∷ []) (f a (here refl))
  only x (add {a} (cons {a = b} h hs) u) i f = absurd (h (f a (here refl) ∙ sym (f b (there (here refl)))))

  -- the list without an element: any sum over it is less by that element's share
  pub record Without (a : A) (m : List A) : Type 0 where
    pub rest : List A
    pub less : (f : A → ℕ) → sum_over f m ≡ f a + sum_over f rest
    pub others : (b : A) → In b m → (b ≡ a → ⊥) → In b rest

  pub without : {a : A} {m : List A} → In a m → Without a m
  without {a} (here {x = c} {xs = l} e) = record { rest = l; less = λ f. ap (λ c. f c + sum_over f l) (sym e); others = λ b i n. by b n (cases_cons i) }
    where
      by : (b : A) → (b ≡ a → ⊥) → (b ≡ c) ⊎ In b l → In b l
      by b n (inl f) = absurd (n (f ∙ sym e))
      by b n (inr i) = i
  without {a} (there {x = c} {xs = l} i) = step (without i)
    where
      step : Without a l → Without a (c ∷ l)
      step w = record { rest = c ∷ w.rest; less = λ f. omega (arith, w.less f); others = λ b j n. by b n (cases_cons j) }
        where
          by : (b : A) → (b ≡ a → ⊥) → (b ≡ c) ⊎ In b l → In b (c ∷ w.rest)
          by b n (inl f) = here f
          by b n (inr j) = there (w.others b j n)

  pub sum_fits : (f : A → ℕ) {l m : List A} → Unique l → ((a : A) → In a l → In a m) → sum_over f l ≤ sum_over f m
  sum_fits f none s = zero-le
  sum_fits f (add {a} {l} h u) s =
      let w = without (s a (here refl)) in
      omega (arith, w.less f, sum_fits f u (λ b i. w.others b (s b (there i)) (λ e. in_all i h (sym e))))

  -- the length is the sum of ones
  ones : (l : List A) → length l ≡ sum_over (λ a. 1) l
  ones [] = refl
  ones (a ∷ l) = omega (arith, ones l)

  pub shorter : {a : A} {m : List A} (w : Without a m) → length m ≡ suc (length w.rest)
  shorter {m = m} w = omega (arith, ones m, ones w.rest, w.less (λ a. 1))

  pub fits : {l m : List A} → Unique l → ((a : A) → In a l → In a m) → length l ≤ length m
  fits {l} {m} u s = omega (arith, ones l, ones m, sum_fits (λ a. 1) u s)

  pub same_length : {l m : List A} → Unique l → Unique m → ((a : A) → In a l → In a m) → ((a : A) → In a m → In a l) → length l ≡ length m
  same_length u v s t = le_antisymm (fits u s) (fits v t)

pub unique_map : {A B : Type 0} (f : A → B) {l : List A} → Unique l → ((a b : A) → In a l → In b l → f a ≡ f b → a ≡ b) → Unique (map f l)
unique_map f none n = none
unique_map f (add {a} {l} h u) n =
    add
    (all_in_lem (map f l) (λ b i e. let (c, j, g) = map-in f l i in in_all j h (n a c (here refl) (there j) (e ∙ sym g))))
    (unique_map f u (λ b c i j. n b c (there i) (there j)))
