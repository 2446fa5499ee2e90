-- Lists: tests of their elements, lists made by a rule, and parts that were lent and came back.
use Prim.Native.Nat.{ℕ, zero, suc, ◌+◌, ◌-◌, ◌≤◌, ◌<◌}
use mathlib.Core.Bool.{Bool, true, false, cond, not, ◌&&◌, ◌||◌, false≢true, and_assoc}
use mathlib.Core.Path.{◌≡◌, refl, sym, ◌∙◌, ap}
use mathlib.Core.List.{List, [], ◌∷◌, ◌++◌, append_assoc, append-nil, map, map-append}
use native.Mathlib.Numerals.{add-one}
use native.Mathlib.Decide.{dec_lt}
use native.Mathlib.Omega.{arith}
use native.Mathlib.Nat.{not-suc-le-zero, le_of_suc-le-suc, le_trans, add-zero, add-suc}
use borrow.Author.Tests.{eqb-true, eq-eqb, not-true}
use lib.Dec.{eqb}
use lib.ListN.{length, get_or, take, drop, replicate, length-append, length-drop, get_or-append}
use lib.Seq.{get_or_at, take_at, take_all, length-take-le, length_front, ext_get_or}
use Rattle.basics.specs.Lists.{all, any, filter, different, table, same, Holds}

-- ---- tests that are joined by &&

pub both_left : (a b : Bool) → (a && b) ≡ true → a ≡ true
both_left true b e = refl
both_left false b e = e

pub both_right : (a b : Bool) → (a && b) ≡ true → b ≡ true
both_right true b e = e
both_right false b e = absurd (false≢true e)

pub both : (a b : Bool) → (a && b) ≡ true → (a ≡ true) × (b ≡ true)
both a b e = (both_left a b e, both_right a b e)

pub both_true : (a b : Bool) → a ≡ true → b ≡ true → (a && b) ≡ true
both_true a b e f = rw (e, f)

module _ {A : Type 0} where
  -- ---- every element

  pub all_get : (p : A → Bool) (l : List A) (d : A) (i : ℕ) → all p l ≡ true → i < length l → p (get_or l i d) ≡ true
  all_get p [] d i e h = absurd (not-suc-le-zero h)
  all_get p (x ∷ l) d zero e h = both_left (p x) (all p l) e
  all_get p (x ∷ l) d (suc i) e h = all_get p l d i (both_right (p x) (all p l) e) (le_of_suc-le-suc h)

  pub all_of : (p : A → Bool) (l : List A) (d : A) → ((i : ℕ) → i < length l → p (get_or l i d) ≡ true) → all p l ≡ true
  all_of p [] d h = refl
  all_of p (x ∷ l) d h = both_true (p x) (all p l) (h 0 (omega arith)) (all_of p l d (λ i k. h (suc i) (omega arith)))

  -- one element that fails
  pub all_not : (p : A → Bool) (l : List A) (d : A) (i : ℕ) → i < length l → p (get_or l i d) ≡ false → all p l ≡ false
  all_not p l d i h e = go (all p l) refl
    where
      go : (b : Bool) → all p l ≡ b → all p l ≡ false
      go false q = q
      go true q = absurd (false≢true (sym e ∙ all_get p l d i q h))

  pub all_append : (p : A → Bool) (l r : List A) → all p (l ++ r) ≡ (all p l && all p r)
  all_append p [] r = refl
  all_append p (x ∷ l) r = rw (all_append p l r) (sym (and_assoc (p x) (all p l) (all p r)))

  pub all_drop : (p : A → Bool) (l : List A) (i : ℕ) → all p l ≡ true → all p (drop i l) ≡ true
  all_drop p l zero e = e
  all_drop p [] (suc i) e = refl
  all_drop p (x ∷ l) (suc i) e = all_drop p l i (both_right (p x) (all p l) e)

  pub all_take : (p : A → Bool) (l : List A) (i : ℕ) → all p l ≡ true → all p (take i l) ≡ true
  all_take p l zero e = refl
  all_take p [] (suc i) e = refl
  all_take p (x ∷ l) (suc i) e = both_true (p x) (all p (take i l)) (both_left (p x) (all p l) e) (all_take p l i (both_right (p x) (all p l) e))

  pub all_replicate : (p : A → Bool) (n : ℕ) (a : A) → p a ≡ true → all p (replicate n a) ≡ true
  all_replicate p zero a e = refl
  all_replicate p (suc n) a e = rw e (all_replicate p n a e)

  -- a weaker test
  pub all_weaker : (p q : A → Bool) (l : List A) → ((a : A) → p a ≡ true → q a ≡ true) → all p l ≡ true → all q l ≡ true
  all_weaker p q [] h e = refl
  all_weaker p q (x ∷ l) h e = both_true (q x) (all q l) (h x (both_left (p x) (all p l) e)) (all_weaker p q l h (both_right (p x) (all p l) e))

  -- ---- some element

  pub any_append : (p : A → Bool) (l r : List A) → any p (l ++ r) ≡ (any p l || any p r)
  any_append p [] r = refl
  any_append p (x ∷ l) r = go (p x) (any_append p l r)
    where
      go : (b : Bool) → any p (l ++ r) ≡ (any p l || any p r) → (b || any p (l ++ r)) ≡ ((b || any p l) || any p r)
      go true e = refl
      go false e = e

  -- none passes where every one fails
  pub any_all : (p : A → Bool) (l : List A) → not (any p l) ≡ all (λ a. not (p a)) l
  any_all p [] = refl
  any_all p (x ∷ l) = go (p x) (any_all p l)
    where
      go : (b : Bool) → not (any p l) ≡ all (λ a. not (p a)) l → not (b || any p l) ≡ (not b && all (λ a. not (p a)) l)
      go true e = refl
      go false e = e

  pub any_get : (p : A → Bool) (l : List A) (d : A) (i : ℕ) → i < length l → p (get_or l i d) ≡ true → any p l ≡ true
  any_get p [] d i h e = absurd (not-suc-le-zero h)
  any_get p (x ∷ l) d zero h e = rw e
  any_get p (x ∷ l) d (suc i) h e = rw (any_get p l d i (le_of_suc-le-suc h) e) (go (p x))
    where
      go : (b : Bool) → (b || true) ≡ true
      go true = refl
      go false = refl

  -- ---- the elements that pass

  pub filter_append : (p : A → Bool) (l r : List A) → filter p (l ++ r) ≡ filter p l ++ filter p r
  filter_append p [] r = refl
  filter_append p (x ∷ l) r = go (p x) (filter_append p l r)
    where
      go : (b : Bool) → filter p (l ++ r) ≡ filter p l ++ filter p r → cond b (x ∷ filter p (l ++ r)) (filter p (l ++ r)) ≡ cond b (x ∷ filter p l) (filter p l) ++ filter p r
      go true e = ap (λ (m : List A). x ∷ m) e
      go false e = e

  pub length_filter : (p : A → Bool) (l : List A) → length (filter p l) ≤ length l
  length_filter p [] = omega arith
  length_filter p (x ∷ l) = go (p x) (length_filter p l)
    where
      go : (b : Bool) → length (filter p l) ≤ length l → length (cond b (x ∷ filter p l) (filter p l)) ≤ suc (length l)
      go true e = omega arith
      go false e = omega arith

  -- nothing passes among f 0, f 1, .. from k on
  pub filter_skip : (p : A → Bool) (f : ℕ → A) (k n : ℕ) → k ≤ n → ((i : ℕ) → k ≤ i → i < n → p (f i) ≡ false) → filter p (table f n) ≡ filter p (table f k)
  filter_skip p f k zero h g = let e : 0 ≡ k = omega arith in ap (λ i. filter p (table f i)) e
  filter_skip p f k (suc n) h g =
      elim (dec_lt n k) [
        | yes l ↦ (let e : suc n ≡ k = omega arith in ap (λ i. filter p (table f i)) e)
        | no l ↦ filter_append p (table f n) (f n ∷ []) ∙ rw (g n (omega arith) (omega arith)) (append-nil (filter p (table f n)))
            ∙ filter_skip p f k n (omega arith) (λ i a b. g i a (omega arith))
      ]

  -- ---- no element twice

  pub different_get : (s : A → A → Bool) (l : List A) (d : A) (i j : ℕ) → different s l ≡ true → i < j → j < length l → s (get_or l i d) (get_or l j d) ≡ false
  different_get s [] d i j e h k = absurd (not-suc-le-zero k)
  different_get s (x ∷ l) d i zero e h k = absurd (not-suc-le-zero h)
  different_get s (x ∷ l) d zero (suc j) e h k =
      not-true _ (all_get (λ b. not (s x b)) l d j (both_left (all (λ b. not (s x b)) l) (different s l) e) (le_of_suc-le-suc k))
  different_get s (x ∷ l) d (suc i) (suc j) e h k =
      different_get s l d i j (both_right (all (λ b. not (s x b)) l) (different s l) e) (le_of_suc-le-suc h) (le_of_suc-le-suc k)

  pub different_of : (s : A → A → Bool) (l : List A) (d : A) → ((i j : ℕ) → i < j → j < length l → s (get_or l i d) (get_or l j d) ≡ false) → different s l ≡ true
  different_of s [] d h = refl
  different_of s (x ∷ l) d h =
      both_true
      (all (λ b. not (s x b)) l)
      (different s l)
      (all_of (λ b. not (s x b)) l d (λ j k. rw (h 0 (suc j) (omega arith) (omega arith))))
      (different_of s l d (λ i j g k. h (suc i) (suc j) (omega arith) (omega arith)))

  -- ---- lists made by a rule

  pub length_table : (f : ℕ → A) (n : ℕ) → length (table f n) ≡ n
  length_table f zero = refl
  length_table f (suc n) = length-append (table f n) _ ∙ ap (λ (k : ℕ). k + 1) (length_table f n) ∙ add-one n

  pub table_front : (f : ℕ → A) (n : ℕ) → table f (suc n) ≡ f 0 ∷ table (λ i. f (suc i)) n
  table_front f zero = refl
  table_front f (suc n) = ap (λ l. l ++ (f (suc n) ∷ [])) (table_front f n)

  pub table_add : (f : ℕ → A) (m n : ℕ) → table f (m + n) ≡ table f m ++ table (λ i. f (m + i)) n
  table_add f m zero = rw add-zero (sym (append-nil (table f m)))
  table_add f m (suc n) = rw add-suc (ap (λ l. l ++ (f (m + n) ∷ [])) (table_add f m n)) ∙ append_assoc (table f m) (table (λ i. f (m + i)) n) (f (m + n) ∷ [])

  pub get_or_table : (f : ℕ → A) (n i : ℕ) (d : A) → i < n → get_or (table f n) i d ≡ f i
  get_or_table f zero i d h = absurd (not-suc-le-zero h)
  get_or_table f (suc n) i d h =
      elim (dec_lt i n) [
        | yes l ↦ get_or-append (table f n) (f n ∷ []) d i (rw (length_table f n) l) ∙ get_or_table f n i d l
        | no g ↦ (let e : i ≡ n = omega arith in rw e (get_or_at (table f n) (f n) [] d n (length_table f n)))
      ]

  -- two rules that agree below n
  pub table_as : (f g : ℕ → A) (n : ℕ) → ((i : ℕ) → i < n → f i ≡ g i) → table f n ≡ table g n
  table_as f g zero h = refl
  table_as f g (suc n) h = rw (table_as f g n (λ i k. h i (omega arith)), h n (omega arith))

  -- a list is the table of its elements, and any list with the elements of a table is that table
  pub is_table : (f : ℕ → A) (l : List A) (d : A) → ((i : ℕ) → i < length l → get_or l i d ≡ f i) → l ≡ table f (length l)
  is_table f l d h = ext_get_or d l (table f (length l)) (sym (length_table f (length l))) (λ i k. h i k ∙ sym (get_or_table f (length l) i d k))

  pub table_get : (l : List A) (d : A) → table (λ i. get_or l i d) (length l) ≡ l
  table_get l d = sym (is_table (λ i. get_or l i d) l d (λ i k. refl))

  pub all_table : (p : A → Bool) (f : ℕ → A) (n : ℕ) → ((i : ℕ) → i < n → p (f i) ≡ true) → all p (table f n) ≡ true
  all_table p f zero h = refl
  all_table p f (suc n) h = all_append p (table f n) (f n ∷ []) ∙ rw (all_table p f n (λ i k. h i (omega arith)), h n (omega arith))

-- two tests of two tables, which agree from element to element
pub all_table_as : {A B : Type 0} (p : A → Bool) (r : B → Bool) (f : ℕ → A) (g : ℕ → B) (n : ℕ) → ((i : ℕ) → i < n → p (f i) ≡ r (g i)) → all p (table f n) ≡ all r (table g n)
all_table_as p r f g zero h = refl
all_table_as p r f g (suc n) h =
    all_append p (table f n) (f n ∷ []) ∙ rw (all_table_as p r f g n (λ i k. h i (omega arith)), h n (omega arith)) (sym (all_append r (table g n) (g n ∷ [])))

pub map_table : {A B : Type 0} (g : A → B) (f : ℕ → A) (n : ℕ) → map g (table f n) ≡ table (λ i. g (f i)) n
map_table g f zero = refl
map_table g f (suc n) = map-append g (table f n) (f n ∷ []) ∙ rw (map_table g f n)

-- what passes among f 0, f 1, .. is what f gives for the indices that pass
pub filter_table : {A : Type 0} (p : A → Bool) (f : ℕ → A) (r : ℕ → Bool) (n : ℕ) → ((i : ℕ) → i < n → p (f i) ≡ r i) → filter p (table f n) ≡ map f (filter r (table (λ i. i) n))
filter_table p f r zero h = refl
filter_table p f r (suc n) h =
    filter_append p (table f n) (f n ∷ [])
    ∙ rw (filter_table p f r n (λ i k. h i (omega arith)), h n (omega arith), filter_append r (table (λ i. i) n) (n ∷ [])) (last (r n))
  where
    last : (b : Bool) → map f (filter r (table (λ i. i) n)) ++ cond b (f n ∷ []) [] ≡ map f (filter r (table (λ i. i) n) ++ cond b (n ∷ []) [])
    last true = sym (map-append f (filter r (table (λ i. i) n)) (n ∷ []))
    last false = sym (map-append f (filter r (table (λ i. i) n)) [])

pub get_or_map_in : {A B : Type 0} (f : A → B) (l : List A) (i : ℕ) (d : A) (e : B) → i < length l → get_or (map f l) i e ≡ f (get_or l i d)
get_or_map_in f [] i d e h = absurd (not-suc-le-zero h)
get_or_map_in f (x ∷ l) zero d e h = refl
get_or_map_in f (x ∷ l) (suc i) d e h = get_or_map_in f l i d e (le_of_suc-le-suc h)

get_or_replicate_zero : (k i : ℕ) → ◌≡◌ {A = ℕ} (get_or (replicate k 0) i 0) 0
get_or_replicate_zero zero i = refl
get_or_replicate_zero (suc k) zero = refl
get_or_replicate_zero (suc k) (suc i) = get_or_replicate_zero k i

-- zeros behind a list change nothing
pub get_or_zeros : (l : List ℕ) (k i : ℕ) → get_or (l ++ replicate k 0) i 0 ≡ get_or l i 0
get_or_zeros [] k i = get_or_replicate_zero k i
get_or_zeros (x ∷ l) k zero = refl
get_or_zeros (x ∷ l) k (suc i) = get_or_zeros l k i

-- ---- the test of sameness

pub same_true : (l m : List ℕ) → same l m ≡ true → l ≡ m
same_true [] [] e = refl
same_true [] (b ∷ m) e = absurd (false≢true e)
same_true (a ∷ l) [] e = absurd (false≢true e)
same_true (a ∷ l) (b ∷ m) e = rw (eqb-true a b (both_left (eqb a b) (same l m) e), same_true l m (both_right (eqb a b) (same l m) e))

pub same_refl : (l : List ℕ) → same l l ≡ true
same_refl [] = refl
same_refl (a ∷ l) = both_true (eqb a a) (same l l) (eq-eqb a a refl) (same_refl l)

pub eq_same : (l m : List ℕ) → l ≡ m → same l m ≡ true
eq_same l m e = rw e (same_refl m)

-- ---- parts that were lent

module _ {A : Type 0} where
  -- the part of n elements from a on
  pub part_length : (l : List A) (a n : ℕ) → a + n ≤ length l → length (take n (drop a l)) ≡ n
  part_length l a n h = length-take-le n (drop a l) (rw length-drop (omega arith))

  -- the first n that were lent, as they come back
  pub front : (l e : List A) (n : ℕ) → n ≤ length l → length e ≡ length (take n l) → take n (e ++ drop n l) ≡ e
  front l e n h k = take_at e (drop n l) n (k ∙ length-take-le n l h)

  -- a list that was copied to one of its length
  pub copied : {n : ℕ} {v out : List A} → length v ≡ n → length out ≡ n → take n out ≡ take n v → out ≡ v
  copied {n} {v} {out} e d h = sym (take_all n out (omega arith)) ∙ h ∙ take_all n v (omega arith)

  -- a middle part, from n to m, as it comes back behind the first n
  pub extended : (l z r : List A) (n m : ℕ) → n ≤ m → m ≤ length l → length z ≡ length (take (m - n) (drop n l)) → take m (take n l ++ (z ++ r)) ≡ take n l ++ z
  extended l z r n m h k e =
      let size : length z ≡ m - n = e ∙ part_length l n (m - n) (omega arith) in
      let long : length (take n l ++ z) ≡ m = rw (length-append (take n l) z, length-take-le n l (le_trans h k)) (omega arith) in
      rw (← append_assoc (take n l) z r) (take_at (take n l ++ z) r m long)

-- ---- arrays of which a part is in use

module _ {xs : List ℕ} {n : ℕ} {l : List ℕ} (h : Holds xs n l) where
  pub holds_length : length l ≡ n
  holds_length = ap length (sym h.first) ∙ length-take-le n xs h.within

  pub holds_as : {m : List ℕ} → l ≡ m → Holds xs n m
  holds_as e = record { within = h.within; first = h.first ∙ e }

-- the first n that were lent, and came back as f
pub lent : (l e : List ℕ) (n : ℕ) (f : List ℕ) → n ≤ length l → length e ≡ length (take n l) → e ≡ f → Holds (e ++ drop n l) n f
lent l e n f h k p = record { within = rw (length_front l e n k) h; first = front l e n h k ∙ p }
