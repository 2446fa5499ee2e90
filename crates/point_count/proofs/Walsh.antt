-- How often an affine function of a number's binary digits agrees with a table: halving the table in two ways, again and again, gives the sums for all such
-- functions at once.
use Prim.Native.Nat.{ℕ, zero, suc, ◌+◌, ◌*◌, ◌/◌, ◌%◌, ◌≤◌, ◌<◌}
use mathlib.Core.Path.{◌≡◌, refl, sym, ◌∙◌, ap, ap₂}
use mathlib.Core.Bool.{Bool, true, false, not, cond, ◌&&◌, false≢true}
use mathlib.Core.List.Memᴰ.{head as here}
use mathlib.Core.List.Memᴰ.{tail as there}
use mathlib.Core.List.{List, [], ◌∷◌, map, Memᴰ as In}
use native.Mathlib.Decide.{ℕ_discrete}
use native.Mathlib.Omega.{arith}
use lib.Dec.{leb}
use lib.ListN.{length}
use borrow.Author.Tests.{leb-true, le-leb}
use Rattle.basics.specs.Lists.{filter}
use Rattle.basics.proofs.Lists.{both}
use Rattle.field.specs.Sum.{◌⊕◌}
use Rattle.field.proofs.Sum.{⊕_split, ⊕_double}
use Rattle.codewords.proofs.Tests.{in_filter}
use Rattle.codewords.proofs.Counting.{Unique, fits}

-- the sum of two bits
infixl 60 ◌⊻◌
abbrev pub ◌⊻◌ : Bool → Bool → Bool
false ⊻ b = b
true ⊻ b = not b

-- what a place counts where the function is false, and where it is true
abbrev pub pick : Bool → ℕ × ℕ → ℕ
pick false x = x.0
pick true x = x.1

-- two neighbours as one place, where the function is the same at both, and where it is not
abbrev join : Bool → ℕ × ℕ → ℕ × ℕ → ℕ × ℕ
join false x y = (x.0 + y.0, x.1 + y.1)
join true x y = (x.0 + y.1, x.1 + y.0)

unfoldable pub halved : Bool → List (ℕ × ℕ) → List (ℕ × ℕ)
halved d [] = []
halved d (x ∷ []) = x ∷ []
halved d (x ∷ y ∷ l) = join d x y ∷ halved d l

-- of a table of 2^k places no function's sum is above b
unfoldable pub small : ℕ → ℕ → List (ℕ × ℕ) → Bool
unfolding halved
small b zero [] = true
small b zero (x ∷ []) = leb x.0 b && leb x.1 b
small b zero (x ∷ y ∷ l) = false
small b (suc k) l = small b k (halved false l) && small b k (halved true l)

-- i, i + 1, ..: n numbers
abbrev pub from : ℕ → ℕ → List ℕ
from i zero = []
from i (suc n) = i ∷ from (suc i) n

-- a place that counts once, where the function is b
abbrev pub once : Bool → ℕ × ℕ
once false = (1, 0)
once true = (0, 1)

-- ---- affine functions

-- additive but for a constant
abbrev pub Affine : (ℕ → Bool) → Type 0
Affine L = (a b : ℕ) → L (a ⊕ b) ≡ L a ⊻ (L b ⊻ L 0)

-- what the places count together, of which the first has the number i
abbrev weigh : (ℕ → Bool) → ℕ → List (ℕ × ℕ) → ℕ
weigh L i [] = 0
weigh L i (x ∷ l) = pick (L i) x + weigh L (suc i) l

picked : (b d : Bool) (x y : ℕ × ℕ) → pick b (join d x y) ≡ pick b x + pick (b ⊻ d) y
picked false false x y = refl
picked false true x y = refl
picked true false x y = refl
picked true true x y = refl

odd_⊕ : (j : ℕ) → suc (j * 2) ≡ j * 2 ⊕ 1
odd_⊕ j =
    let h : suc (j * 2) / 2 ≡ j = omega arith in
    let d : suc (j * 2) % 2 ≡ 1 = omega arith in
    sym (⊕_split (suc (j * 2))) ∙ ap₂ (λ a b. a * 2 ⊕ b) h d

weigh_halved : (L : ℕ → Bool) (d : Bool) → ((j : ℕ) → L (suc (j * 2)) ≡ L (j * 2) ⊻ d)
    → (l : List (ℕ × ℕ)) (i : ℕ) → weigh L (i * 2) l ≡ weigh (λ j. L (j * 2)) i (halved d l)
unfolding halved
weigh_halved L d next [] i = refl
weigh_halved L d next (x ∷ []) i = refl
weigh_halved L d next (x ∷ y ∷ l) i =
    let e : suc (suc (i * 2)) ≡ suc i * 2 = omega arith in
    let rest = ap (λ k. weigh L k l) e ∙ weigh_halved L d next l (suc i) in
    let two = ap (λ b. pick b y) (next i) in
    omega (arith, rest, two, picked (L (i * 2)) d x y)

weigh_le : (b k : ℕ) (L : ℕ → Bool) → Affine L → (l : List (ℕ × ℕ)) → small b k l ≡ true → weigh L 0 l ≤ b
unfolding small
weigh_le b zero L A [] h = omega arith
weigh_le b zero L A (x ∷ []) h = by (L 0) (both (leb x.0 b) (leb x.1 b) h)
  where
    by : (c : Bool) → (leb x.0 b ≡ true) × (leb x.1 b ≡ true) → pick c x + 0 ≤ b
    by false h = omega (arith, leb-true x.0 b h.0)
    by true h = omega (arith, leb-true x.1 b h.1)
weigh_le b zero L A (x ∷ y ∷ l) h = absurd (false≢true h)
weigh_le b (suc k) L A l h =
    let d = L 1 ⊻ L 0 in
    let tested = half d (both (small b k (halved false l)) (small b k (halved true l)) h) in
    rw (weigh_halved L d (λ j. ap L (odd_⊕ j) ∙ A (j * 2) 1) l 0)
    (weigh_le b k (λ j. L (j * 2)) (λ a c. ap L (⊕_double a c) ∙ A (a * 2) (c * 2)) (halved d l) tested)
  where
    half : (d : Bool) → (small b k (halved false l) ≡ true) × (small b k (halved true l) ≡ true) → small b k (halved d l) ≡ true
    half false h = h.0
    half true h = h.1

-- ---- counting

pub in_from : (a i n : ℕ) → i ≤ a → a < i + n → In a (from i n)
in_from a i zero l h = absurd (omega arith)
in_from a i (suc n) l h = by (ℕ_discrete a i) (in_from a (suc i) n)
  where
    by : Dec (a ≡ i) → (suc i ≤ a → a < suc i + n → In a (from (suc i) n)) → In a (i ∷ from (suc i) n)
    by (yes e) r = here e
    by (no m) r = there (r (omega arith) (omega arith))

module _ (L : ℕ → Bool) (t : ℕ → ℕ × ℕ) where
  abbrev counts : ℕ → Bool
  counts a = leb 1 (pick (L a) (t a))

  counted : (n i : ℕ) → length (filter counts (from i n)) ≤ weigh L i (map t (from i n))
  counted zero i = omega arith
  counted (suc n) i = by (counts i) refl (counted n (suc i))
    where
      by : (c : Bool) → counts i ≡ c → length (filter counts (from (suc i) n)) ≤ weigh L (suc i) (map t (from (suc i) n))
          → length (cond c (i ∷ filter counts (from (suc i) n)) (filter counts (from (suc i) n))) ≤ weigh L i (map t (from i (suc n)))
      by true e r = omega (arith, leb-true 1 (pick (L i) (t i)) e)
      by false e r = omega arith

  -- there are at most b numbers at which a tested table counts for an affine function
  pub within : (b k n : ℕ) → small b k (map t (from 0 n)) ≡ true → Affine L
      → {l : List ℕ} → Unique l → ((a : ℕ) → In a l → (a < n) × (1 ≤ pick (L a) (t a))) → length l ≤ b
  within b k n h A {l} u f =
      omega (
        arith,
        fits u (λ a i. in_filter counts (in_from a 0 n (omega arith) (omega (arith, (f a i).0))) (le-leb 1 _ (f a i).1)),
        counted n 0,
        weigh_le b k L A (map t (from 0 n)) h,
      )
