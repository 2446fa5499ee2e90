-- Loops as lists: what stands in `each l f`, and how long it is.
use Prim.Native.Nat.{ℕ, zero, suc, ◌+◌, ◌*◌, ◌-◌, ◌/◌, ◌<◌, ◌≤◌}
use mathlib.Core.Path.{◌≡◌, refl, sym, ◌∙◌, ap, ap₂, subst}
use mathlib.Core.Logic.{◌⊎◌, inl, inr}
use mathlib.Core.List.Memᴰ.{append_cases as in-append}
use mathlib.Core.List.Memᴰ.{append_left as in_append_left}
use mathlib.Core.List.Memᴰ.{append_right as in_append_right}
use mathlib.Core.List.Memᴰ.{cases_cons}
use mathlib.Core.List.Memᴰ.{head as here}
use mathlib.Core.List.Memᴰ.{map as in_map}
use mathlib.Core.List.Memᴰ.{of_map as map-in}
use mathlib.Core.List.Memᴰ.{tail as there}
use mathlib.Core.List.{List, [], ◌∷◌, ◌++◌, map, append_assoc, Memᴰ as In}
use native.Mathlib.Omega.{arith}
use native.Mathlib.Decide.{ℕ_discrete}
use native.Mathlib.Nat.{suc-mul, mul-suc, zero-mul, add-mul}
use lib.ListN.{length, length-append}
use Rattle.basics.specs.Lists.{table}
use Rattle.basics.proofs.Lists.{length_table, map_table}
use Rattle.elliptic.proofs.Points.{All, All.nil, All.cons}
use Rattle.codewords.specs.Codewords.{below}
use Rattle.codewords.proofs.Listing.{in_below, below_in}
use Rattle.codewords.proofs.Picking.{all_join}
use Rattle.patterns.specs.Patterns.{each, down, amounts}

module _ {A B : Type 0} where
  pub in_each : (f : A → List B) {a : A} {b : B} {l : List A} → In a l → In b (f a) → In b (each l f)
  in_each f {b = b} (here {x = c} {xs = l} e) j = in_append_left (each l f) (subst (λ a. In b (f a)) e j)
  in_each f (there {x = c} i) j = in_append_right (f c) (in_each f i j)

  pub each_in : (f : A → List B) {b : B} (l : List A) → In b (each l f) → (a : A) × In a l × In b (f a)
  each_in f [] i = elim i [ ]
  each_in f {b} (c ∷ l) i = by (each_in f l) (in-append (f c) i)
    where
      by : (In b (each l f) → (a : A) × In a l × In b (f a)) → In b (f c) ⊎ In b (each l f) → (a : A) × In a (c ∷ l) × In b (f a)
      by r (inl j) = (c, here refl, j)
      by r (inr j) = let (a, k, m) = r j in (a, there k, m)

  -- what holds of every element of each list
  pub all_each : {P : B → Type 0} (f : A → List B) (l : List A) → ((a : A) → In a l → All P (f a)) → All P (each l f)
  all_each f [] h = nil
  all_each f (a ∷ l) h = all_join (h a (here refl)) (all_each f l (λ b i. h b (there i)))

  pub all_mapped : {P : B → Type 0} (f : A → B) (l : List A) → ((a : A) → In a l → P (f a)) → All P (map f l)
  all_mapped f [] h = nil
  all_mapped f (a ∷ l) h = cons (h a (here refl)) (all_mapped f l (λ b i. h b (there i)))

  -- lists of one length
  pub length_each : (f : A → List B) (s : ℕ) → ((a : A) → length (f a) ≡ s) → (l : List A) → length (each l f) ≡ length l * s
  length_each f s h [] = sym (zero-mul s)
  length_each f s h (a ∷ l) = length-append (f a) (each l f) ∙ omega (arith, h a, length_each f s h l, suc-mul (length l) s)

  pub each_as : (f g : A → List B) → ((a : A) → f a ≡ g a) → (l : List A) → each l f ≡ each l g
  each_as f g h [] = refl
  each_as f g h (a ∷ l) = ap₂ ◌++◌ (h a) (each_as f g h l)

  each_append : (f : A → List B) (l r : List A) → each (l ++ r) f ≡ each l f ++ each r f
  each_append f [] r = refl
  each_append f (a ∷ l) r = ap (λ m. f a ++ m) (each_append f l r) ∙ sym (append_assoc (f a) (each l f) (each r f))

-- loops in loops
module _ {A B C : Type 0} where
  pub each_map : (g : A → B) (f : B → List C) (l : List A) → each (map g l) f ≡ each l (λ a. f (g a))
  each_map g f [] = refl
  each_map g f (a ∷ l) = ap (λ r. f (g a) ++ r) (each_map g f l)

  pub each_each : (g : A → List B) (f : B → List C) (l : List A) → each (each l g) f ≡ each l (λ a. each (g a) f)
  each_each g f [] = refl
  each_each g f (a ∷ l) = each_append f (g a) (each l g) ∙ ap (λ r. each (g a) f ++ r) (each_each g f l)

-- ---- n − 1, .., 1, 0

pub length_down : (n : ℕ) → length (down n) ≡ n
unfolding down
length_down zero = refl
length_down (suc n) = ap suc (length_down n)

pub in_down : (n i : ℕ) → i < n → In i (down n)
unfolding down
in_down zero i h = absurd (omega arith)
in_down (suc n) i h = by (ℕ_discrete i n) (in_down n i)
  where
    by : Dec (i ≡ n) → (i < n → In i (down n)) → In i (n ∷ down n)
    by (yes e) r = here e
    by (no d) r = there (r (omega arith))

pub down_in : (n : ℕ) {i : ℕ} → In i (down n) → i < n
unfolding down
down_in zero i = elim i [ ]
down_in (suc n) {i = a} i = by (down_in n) (cases_cons i)
  where
    by : (In a (down n) → a < n) → (a ≡ n) ⊎ In a (down n) → a < suc n
    by r (inl e) = omega arith
    by r (inr j) = omega (arith, r j)

-- how many pairs of n there are
pub triangle : ℕ → ℕ
triangle zero = 0
triangle (suc n) = n + triangle n

triangle_twice : (n : ℕ) → triangle n + triangle n ≡ n * (n - 1)
unfolding triangle
triangle_twice zero = refl
triangle_twice (suc zero) = refl
triangle_twice (suc (suc n)) = step n (triangle (suc n)) (triangle_twice (suc n))
  where
    step : (n t : ℕ) → t + t ≡ suc n * (suc n - 1) → (suc n + t) + (suc n + t) ≡ suc (suc n) * (suc (suc n) - 1)
    step n t e =
        let less : suc n - 1 ≡ n = omega arith in
        let same : suc (suc n) - 1 ≡ suc n = omega arith in
        rw same (omega (arith, rw less at e, suc-mul (suc n) (suc n), mul-suc (suc n) n))

pub triangle_half : (n : ℕ) → triangle n ≡ n * (n - 1) / 2
triangle_half n = omega (arith, triangle_twice n)

-- lists whose length grows with the number
pub length_down_each : {B : Type 0} (f : ℕ → List B) (s : ℕ) → ((i : ℕ) → length (f i) ≡ i * s) → (n : ℕ) → length (each (down n) f) ≡ triangle n * s
unfolding down triangle
length_down_each f s h zero = sym (zero-mul s)
length_down_each f s h (suc n) = length-append (f n) (each (down n) f) ∙ omega (arith, h n, length_down_each f s h n, add-mul n (triangle n) s)

-- ---- 1, 2, .., n

pub in_counted : (n p : ℕ) → 1 ≤ p → p ≤ n → In p (table suc n)
in_counted n p h k =
    let e : suc (p - 1) ≡ p = omega arith in
    subst (λ p. In p (table suc n)) e (subst (λ l. In (suc (p - 1)) l) (map_table suc (λ a. a) n) (in_map suc (in_below n (p - 1) (omega arith))))

pub counted_in : (n : ℕ) {p : ℕ} → In p (table suc n) → (1 ≤ p) × (p ≤ n)
counted_in n {p} i =
    let (a, j, e) = map-in suc (below n) (subst (λ l. In p l) (sym (map_table suc (λ a. a) n)) i) in
    let h : a < n = below_in n j in
    let e' : suc a ≡ p = e in
    (omega arith, omega arith)

pub length_amounts : (q : ℕ) → length (amounts q) ≡ q - 1
unfolding amounts
length_amounts q = length_table suc (q - 1)

pub in_amounts : (q d : ℕ) → (d ≡ 0 → ⊥) → d < q → In d (amounts q)
unfolding amounts
in_amounts q d n h = in_counted (q - 1) d (omega arith) (omega arith)

pub amounts_in : (q : ℕ) {d : ℕ} → In d (amounts q) → (1 ≤ d) × (d < q)
unfolding amounts
amounts_in q i = let (a, b) = counted_in (q - 1) i in (a, omega (arith, a, b))
