-- One pass over a table without an early exit: what holds of all elements so far, and whether a number was met twice, which is so exactly if
-- it has a mark when it is met.
use Prim.Native.Nat.{ℕ, zero, suc, ◌+◌, ◌<◌}
use mathlib.Core.Path.{◌≡◌, refl, sym, ◌∙◌, ap, ap₂}
use mathlib.Core.Bool.{Bool, true, false, not, ◌&&◌, false≢true}
use mathlib.Core.List.{List, [], ◌∷◌}
use native.Mathlib.Numerals.{add-one}
use native.Mathlib.Omega.{arith}
use native.Mathlib.Decide.{ℕ_discrete}
use borrow.Author.Tests.{eqb-true, eqb-false, eq-eqb, ne_eqb}
use lib.Dec.{eqb}
use lib.ListN.{length, get_or, set, replicate, length-set, length-replicate}
use lib.Seq.{get_or-set_same, get_or-set_other}
use Rattle.basics.specs.Lists.{all, different, table}
use Rattle.basics.proofs.Lists.{all_append, different_get, different_of, length_table, get_or_table, table_get}

and_true : (b : Bool) → (b && true) ≡ b
and_true true = refl
and_true false = refl

pub all_next : {A : Type 0} (p : A → Bool) (f : ℕ → A) (i : ℕ) → (all p (table f i) && p (f i)) ≡ all p (table f (i + 1))
all_next p f i = rw (add-one i) (sym (all_append p (table f i) (f i ∷ []) ∙ ap (λ b. all p (table f i) && b) (and_true (p (f i)))))

-- the elements of a list of numbers, as a table
abbrev pub element : List ℕ → ℕ → ℕ
element l i = get_or l i 0

pub all_ends : (p : ℕ → Bool) (l : List ℕ) (i : ℕ) {b : Bool} → b ≡ all p (table (element l) i) → i ≡ length l → b ≡ all p l
all_ends p l i h e = h ∙ ap (λ (k : ℕ). all p (table (element l) k)) e ∙ ap (all p) (table_get l 0)

-- ---- a table of numbers: none of the first n stands twice

module _ (f : ℕ → ℕ) where
  apart_at : (n a b : ℕ) → different eqb (table f n) ≡ true → a < b → b < n → eqb (f a) (f b) ≡ false
  apart_at n a b e h k =
      sym (ap₂ eqb (get_or_table f n a 0 (omega arith)) (get_or_table f n b 0 k)) ∙ different_get eqb (table f n) 0 a b e h (rw (length_table f n) k)

  apart_of : (n : ℕ) → ((a b : ℕ) → a < b → b < n → eqb (f a) (f b) ≡ false) → different eqb (table f n) ≡ true
  apart_of n h =
      different_of eqb (table f n) 0
      (λ a b l k. let j : b < n = rw (length_table f n) at k in ap₂ eqb (get_or_table f n a 0 (omega arith)) (get_or_table f n b 0 j) ∙ h a b l j)

  -- one more number, which was met before exactly if t holds
  apart_next : (i : ℕ) (t : Bool) → (t ≡ true → (a : ℕ) × (a < i) × (f a ≡ f i)) → ((a : ℕ) → a < i → f a ≡ f i → t ≡ true)
      → (different eqb (table f i) && not t) ≡ different eqb (table f (i + 1))
  apart_next i t met new = by (different eqb (table f i)) (different eqb (table f (i + 1))) t refl refl met new
    where
      by : (d e t : Bool) → different eqb (table f i) ≡ d → different eqb (table f (i + 1)) ≡ e
          → (t ≡ true → (a : ℕ) × (a < i) × (f a ≡ f i)) → ((a : ℕ) → a < i → f a ≡ f i → t ≡ true) → (d && not t) ≡ e
      by true true false p q met new = refl
      by true false true p q met new = refl
      by false false t p q met new = refl
      by true true true p q met new =
          let (a, h, k) = met refl in
          absurd (eqb-false (f a) (f i) (apart_at (i + 1) a i q h (omega arith)) k)
      by false true t p q met new = absurd (false≢true (sym p ∙ apart_of i (λ a b h k. apart_at (i + 1) a b q h (omega arith))))
      by true false false p q met new = absurd (false≢true (sym q ∙ apart_of (i + 1) (λ a b h k. at a b h k (ℕ_discrete b i))))
        where
          at : (a b : ℕ) → a < b → b < i + 1 → Dec (b ≡ i) → eqb (f a) (f b) ≡ false
          at a b h k (yes e) = ne_eqb (f a) (f b) (λ g. false≢true (new a (omega arith) (g ∙ ap f e)))
          at a b h k (no n) = apart_at i a b p h (omega arith)

-- ---- the marks

-- after the numbers f 0 to f (i − 1): those have marks in seen, no others do, and b says that none of them stands twice
pub record Marked (f : ℕ → ℕ) (seen : List ℕ) (i : ℕ) (b : Bool) : Type 0 where
  pub size : length seen ≡ 512
  pub found : (s : ℕ) → get_or seen s 0 ≡ 1 → (a : ℕ) × (a < i) × (f a ≡ s)
  pub marked : (a : ℕ) → a < i → get_or seen (f a) 0 ≡ 1
  pub apart : b ≡ different eqb (table f i)

no_mark : (n s : ℕ) → ◌≡◌ {A = ℕ} (get_or (replicate n 0) s 0) 1 → ⊥
no_mark zero s e = let z : ◌≡◌ {A = ℕ} 0 1 = e in omega arith
no_mark (suc n) zero e = let z : ◌≡◌ {A = ℕ} 0 1 = e in omega arith
no_mark (suc n) (suc s) e = no_mark n s e

pub marked_none : (f : ℕ → ℕ) (seen : List ℕ) → seen ≡ replicate 512 0 → Marked f seen 0 true
marked_none f seen e =
    record {
      size = ap length e ∙ length-replicate {A = ℕ} 512 0;
      found = λ s h. absurd (no_mark 512 s (rw e at h));
      marked = λ a h. absurd (omega arith);
      apart = refl;
    }

-- one more number is met and marked
pub marked_next : (f : ℕ → ℕ) (seen : List ℕ) (i : ℕ) {b : Bool} → Marked f seen i b → f i < 512
    → Marked f (set seen (f i) 1) (i + 1) (b && not (eqb (get_or seen (f i) 0) 1))
marked_next f seen i m lt =
    record {
      size = length-set seen (f i) 1 ∙ m.size;
      found = λ s h. found s h (ℕ_discrete (f i) s);
      marked = λ a h. marked a h (ℕ_discrete a i) (ℕ_discrete (f i) (f a));
      apart = ap (λ d. d && not (eqb (get_or seen (f i) 0) 1)) m.apart
          ∙ apart_next f i (eqb (get_or seen (f i) 0) 1) (λ t. m.found (f i) (eqb-true (get_or seen (f i) 0) 1 t))
          (λ a h e. eq-eqb (get_or seen (f i) 0) 1 (ap (λ s. get_or seen s 0) (sym e) ∙ m.marked a h));
    }
  where
    inside : f i < length seen
    inside = omega (arith, m.size)

    found : (s : ℕ) → get_or (set seen (f i) 1) s 0 ≡ 1 → Dec (f i ≡ s) → (a : ℕ) × (a < i + 1) × (f a ≡ s)
    found s h (yes e) = (i, omega arith, e)
    found s h (no n) = let (a, k, e) = m.found s (sym (get_or-set_other seen (f i) s 1 0 (λ e. n (sym e))) ∙ h) in (a, omega arith, e)

    marked : (a : ℕ) → a < i + 1 → Dec (a ≡ i) → Dec (f i ≡ f a) → get_or (set seen (f i) 1) (f a) 0 ≡ 1
    marked a h d (yes e) = ap (λ s. get_or (set seen (f i) 1) s 0) (sym e) ∙ get_or-set_same seen (f i) 1 0 inside
    marked a h (yes e) (no n) = absurd (n (ap f (sym e)))
    marked a h (no k) (no n) = get_or-set_other seen (f i) (f a) 1 0 (λ e. n (sym e)) ∙ m.marked a (omega arith)
