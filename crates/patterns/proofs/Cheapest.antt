-- The earliest of the cheapest, and the least of a list of numbers: what they are by comparison with each element.
use Prim.Native.Nat.{ℕ, zero, suc, ◌+◌, ◌<◌, ◌≤◌, min}
use mathlib.Core.Path.{◌≡◌, refl, sym, ◌∙◌, subst}
use mathlib.Core.Bool.{Bool, true, false, cond}
use mathlib.Core.Logic.{◌⊎◌, inl, inr}
use mathlib.Core.List.Memᴰ.{cases_cons}
use mathlib.Core.List.Memᴰ.{head as here}
use mathlib.Core.List.Memᴰ.{tail as there}
use mathlib.Core.List.{List, [], ◌∷◌, Memᴰ as In}
use native.Mathlib.Omega.{arith}
use native.Mathlib.Nat.{min-le_left, min-le_right, le_trans, min-eq_left, min-eq_right}
use native.Mathlib.Decide.{dec_le}
use lib.Dec.{ltb}
use lib.ListN.{length, get_or}
use borrow.Author.Tests.{ltb-true, ltb-false}
use Rattle.patterns.specs.Cheapest.{cheaper, cheapest, least, gap_to}

module _ {A : Type 0} (price : A → ℕ) where
  -- the cheaper of two is the second if that costs less, and otherwise the first
  pub record Cheaper (a b c : A) : Type 0 where
    pub first : price c ≤ price a
    pub second : price c ≤ price b
    pub either : (c ≡ a) ⊎ ((c ≡ b) × (price b < price a))

  cheaper_is : (a b : A) → Cheaper a b (cheaper price a b)
  unfolding cheaper
  cheaper_is a b = by (ltb (price b) (price a)) refl
    where
      by : (t : Bool) → ltb (price b) (price a) ≡ t → Cheaper a b (cond t b a)
      by true e = let h : price b < price a = ltb-true _ _ e in record { first = omega arith; second = omega arith; either = inr (refl, h) }
      by false e = let h : price a ≤ price b = ltb-false _ _ e in record { first = omega arith; second = omega arith; either = inl refl }

  pub cheapest_first : (a : A) (l : List A) → price (cheapest price a l) ≤ price a
  unfolding cheapest
  cheapest_first a [] = omega arith
  cheapest_first a (b ∷ l) = le_trans (cheapest_first (cheaper price a b) l) (cheaper_is a b).first

  -- none of the list is cheaper
  pub cheapest_le : {b : A} (a : A) {l : List A} → In b l → price (cheapest price a l) ≤ price b
  unfolding cheapest
  cheapest_le a (here {x = c} {xs = l} e) =
      subst (λ b. price (cheapest price (cheaper price a c) l) ≤ price b) (sym e) (le_trans (cheapest_first (cheaper price a c) l) (cheaper_is a c).second)
  cheapest_le a (there {x = c} i) = cheapest_le (cheaper price a c) i

  -- it is the first or one of the list
  pub cheapest_in : (a : A) (l : List A) → In (cheapest price a l) (a ∷ l)
  unfolding cheapest
  cheapest_in a [] = here refl
  cheapest_in a (b ∷ l) = by (cheaper_is a b).either (cases_cons (cheapest_in (cheaper price a b) l))
    where
      by : (cheaper price a b ≡ a) ⊎ ((cheaper price a b ≡ b) × (price b < price a))
          → (cheapest price (cheaper price a b) l ≡ cheaper price a b) ⊎ In (cheapest price (cheaper price a b) l) l
          → In (cheapest price (cheaper price a b) l) (a ∷ b ∷ l)
      by (inl e) (inl f) = here (f ∙ e)
      by (inr (e, _)) (inl f) = there (here (f ∙ e))
      by c (inr i) = there (there i)

  -- THEOREM: it is the earliest of the cheapest: all before it cost more
  pub record Earliest (l : List A) (c : A) (d : A) : Type 0 where
    pub rank : ℕ
    pub within : rank < length l
    pub is : c ≡ get_or l rank d
    pub before : (j : ℕ) → j < rank → price c < price (get_or l j d)

  pub cheapest_earliest : (d a : A) (l : List A) → Earliest (a ∷ l) (cheapest price a l) d
  unfolding cheapest
  cheapest_earliest d a [] = record { rank = 0; within = omega arith; is = refl; before = λ j h. absurd (omega arith) }
  cheapest_earliest d a (b ∷ l) = by (cheaper_is a b) (cheapest_earliest d (cheaper price a b) l)
    where
      c : A
      c = cheapest price (cheaper price a b) l

      at_first : (cheaper price a b ≡ a) ⊎ ((cheaper price a b ≡ b) × (price b < price a)) → c ≡ cheaper price a b → Earliest (a ∷ b ∷ l) c d
      at_first (inl e) f = record { rank = 0; within = omega arith; is = f ∙ e; before = λ j h. absurd (omega arith) }
      at_first (inr (e, p)) f = record { rank = 1; within = omega arith; is = f ∙ e; before = before }
        where
          before : (j : ℕ) → j < 1 → price c < price (get_or (a ∷ b ∷ l) j d)
          before zero h = rw (f ∙ e) p
          before (suc j) h = absurd (omega arith)

      later : Cheaper a b (cheaper price a b) → (r : ℕ) → suc r < suc (length l) → c ≡ get_or l r d
          → ((j : ℕ) → j < suc r → price c < price (get_or (cheaper price a b ∷ l) j d)) → Earliest (a ∷ b ∷ l) c d
      later k r h e f = record { rank = suc (suc r); within = omega arith; is = e; before = before }
        where
          before : (j : ℕ) → j < suc (suc r) → price c < price (get_or (a ∷ b ∷ l) j d)
          before zero h = omega (arith, f 0 (omega arith), k.first)
          before (suc zero) h = omega (arith, f 0 (omega arith), k.second)
          before (suc (suc j)) h = f (suc j) (omega arith)

      by : Cheaper a b (cheaper price a b) → Earliest (cheaper price a b ∷ l) c d → Earliest (a ∷ b ∷ l) c d
      by k w = go w.rank w.within w.is w.before
        where
          go : (r : ℕ) → r < suc (length l) → c ≡ get_or (cheaper price a b ∷ l) r d
              → ((j : ℕ) → j < r → price c < price (get_or (cheaper price a b ∷ l) j d)) → Earliest (a ∷ b ∷ l) c d
          go zero h e f = at_first k.either e
          go (suc r) h e f = later k r h e f

-- ---- the least of a list

pub least_first : (t : ℕ) (ts : List ℕ) → least t ts ≤ t
unfolding least
least_first t [] = omega arith
least_first t (u ∷ us) = min-le_left t (least u us)

pub least_le : {u t : ℕ} (ts : List ℕ) → In u (t ∷ ts) → least t ts ≤ u
unfolding least
least_le {u} {t} [] i = by (cases_cons i)
  where
    by : (u ≡ t) ⊎ In u [] → t ≤ u
    by (inl e) = omega arith
    by (inr j) = elim j [ ]
least_le {u} {t} (s ∷ ts) i = by (cases_cons i) (least_le ts)
  where
    by : (u ≡ t) ⊎ In u (s ∷ ts) → (In u (s ∷ ts) → least s ts ≤ u) → min t (least s ts) ≤ u
    by (inl e) r = omega (arith, min-le_left t (least s ts))
    by (inr j) r = omega (arith, min-le_right t (least s ts), r j)

-- it is one of them
pub least_in : (t : ℕ) (ts : List ℕ) → In (least t ts) (t ∷ ts)
unfolding least
least_in t [] = here refl
least_in t (u ∷ us) = by (dec_le t (least u us)) (least_in u us)
  where
    by : Dec (t ≤ least u us) → In (least u us) (u ∷ us) → In (min t (least u us)) (t ∷ u ∷ us)
    by (yes h) i = here (min-eq_left h)
    by (no h) i = there (subst (λ m. In m (u ∷ us)) (min_other (omega arith)) i)
      where
        min_other : least u us ≤ t → least u us ≡ min t (least u us)
        min_other g = let e = min-eq_right {n = least u us} {m = t} g in cc

-- THEOREM: the cost is at most any of the numbers and the gap to them together
pub gap_covers : {u : ℕ} (c : ℕ) (l : List ℕ) → In u l → c ≤ u + gap_to c l
unfolding gap_to
gap_covers c [] i = elim i [ ]
gap_covers c (t ∷ ts) i = omega (arith, least_le ts i)
