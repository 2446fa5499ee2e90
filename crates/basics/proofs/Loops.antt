-- Loops over lists: a law for the turn and one for the end of each kind, over lists and numbers, so that a function's proof only cites them.
use Prim.Native.Nat.{ℕ, suc, ◌+◌, ◌≤◌, ◌<◌}
use mathlib.Core.Bool.{Bool, true, false}
use mathlib.Core.Path.{◌≡◌, refl, sym, ◌∙◌}
use mathlib.Core.List.{List, [], ◌∷◌, ◌++◌, append_assoc, append-nil}
use native.Mathlib.Numerals.{add-one}
use native.Mathlib.Omega.{arith}
use native.Mathlib.Nat.{le_refl, add-zero, add-suc, suc-add}
use borrow.Author.Tests.{eq-eqb, ne_eqb}
use lib.ListN.{length, get_or, take, drop, set, length-append, length-set, drop_of_length-le}
use lib.Seq.{sets, append_snoc, drop-cons, set_at, take_at, take-suc-set, drop-set-lt}
use Rattle.basics.specs.Lists.{all, filter, table, same, written}
use Rattle.basics.proofs.Lists.{all_append, all_not, filter_append, length_filter, length_table, get_or_table}

-- what is left at i is the element there, and what is left after it
pub next : {A : Type 0} (l : List A) (d : A) (i : ℕ) → i < length l → drop i l ≡ get_or l i d ∷ drop (i + 1) l
next l d i h = rw (add-one, drop-cons l i d)

-- ---- loops that test element after element, and leave at the first that decides

module _ {A : Type 0} (p : A → Bool) (l : List A) (d : A) (i : ℕ) {b : Bool} where
  -- all before i passed, so the rest decides b
  module _ (rest : all p (drop i l) ≡ b) where
    pub all_fails : i < length l → p (get_or l i d) ≡ false → false ≡ b
    all_fails h e = rw (next l d i h, e) at rest

    pub all_passes : i < length l → p (get_or l i d) ≡ true → all p (drop (i + 1) l) ≡ b
    all_passes h e = rw (next l d i h, e) at rest

    pub all_ends : length l ≤ i → true ≡ b
    all_ends h = rw (drop_of_length-le l h) at rest

-- two lists of one length, element after element
module _ (l m : List ℕ) (i : ℕ) {b : Bool} (rest : same (drop i l) (drop i m) ≡ b) where
  pub same_fails : i < length l → i < length m → (get_or l i 0 ≡ get_or m i 0 → ⊥) → false ≡ b
  same_fails h k e = rw (next l 0 i h, next m 0 i k, ne_eqb (get_or l i 0) (get_or m i 0) e) at rest

  pub same_passes : i < length l → i < length m → get_or l i 0 ≡ get_or m i 0 → same (drop (i + 1) l) (drop (i + 1) m) ≡ b
  same_passes h k e = rw (next l 0 i h, next m 0 i k, eq-eqb (get_or l i 0) (get_or m i 0) e) at rest

  pub same_ends : length l ≤ i → length m ≤ i → true ≡ b
  same_ends h k = rw (drop_of_length-le l h, drop_of_length-le m k) at rest

-- a test of f 0, f 1, .. one after the other
module _ {A : Type 0} (p : A → Bool) (f : ℕ → A) where
  pub all_table_more : (i : ℕ) → all p (table f i) ≡ true → p (f i) ≡ true → all p (table f (i + 1)) ≡ true
  all_table_more i a h = rw (add-one, all_append p (table f i) (f i ∷ []), a, h)

  pub all_table_fails : (n i : ℕ) → i < n → p (f i) ≡ false → all p (table f n) ≡ false
  all_table_fails n i h e = all_not p (table f n) (f i) i (rw (length_table f n) h) (rw (get_or_table f n i (f i) h) e)

-- ---- loops that write f 0, f 1, .. to the front of a list

module _ {A : Type 0} where
  -- the first i are by the rule, the others as they were
  abbrev pub filled : (ℕ → A) → List A → ℕ → List A
  filled f l i = table f i ++ drop i l

  pub filled_more : (f : ℕ → A) (l : List A) (i : ℕ) → i < length l → set (filled f l i) i (f i) ≡ filled f l (i + 1)
  filled_more f l i h = rw (add-one, drop-cons l i (f i)) (set_at (table f i) _ _ (f i) i (length_table f i) ∙ sym (append_assoc (table f i) (f i ∷ []) _))

  -- the same of a list that is known to be filled so far
  pub filled_turn : (f : ℕ → A) (l : List A) (i : ℕ) {out : List A} {v : A} → i < length l → out ≡ filled f l i → v ≡ f i → set out i v ≡ filled f l (i + 1)
  filled_turn f l i h e q = rw (e, q) (filled_more f l i h)

  pub filled_all : (f : ℕ → A) (l : List A) (i : ℕ) → length l ≤ i → filled f l i ≡ table f i
  filled_all f l i h = rw (drop_of_length-le l h) (append-nil (table f i))

  pub filled_front : (f : ℕ → A) (l : List A) (i : ℕ) → take i (filled f l i) ≡ table f i
  filled_front f l i = take_at (table f i) (drop i l) i (length_table f i)

-- ---- loops that change a list in place, from the front

module _ {A : Type 0} where
  -- v is stored at i, and g says what becomes of the rest, which the store does not change
  pub stored : (g : List A → List A) (l : List A) (i : ℕ) (v : A) → i < length l → take (i + 1) (set l i v) ++ g (drop (i + 1) (set l i v)) ≡ take i l ++ v ∷ g (drop (i + 1) l)
  stored g l i v h = rw (add-one, take-suc-set l i v h, drop-set-lt (suc i) l i v (le_refl (suc i)), append_snoc)

-- ---- loops that append to what stands at the front of a buffer, and keep the rest

module _ {A : Type 0} where
  pub written_more : (l old : List A) (v : A) → length l < length old → set (written l old) (length l) v ≡ written (l ++ (v ∷ [])) old
  written_more l old v h = rw (length-append l (v ∷ []), add-one, drop-cons old (length l) v h, append_assoc l (v ∷ []) _) (set_at l _ _ v (length l) refl)

  -- the elements that pass among f 0, .., f (i − 1): one more, or none
  module _ (p : A → Bool) (f : ℕ → A) (i : ℕ) where
    pub filter_table_more : p (f i) ≡ true → filter p (table f (i + 1)) ≡ filter p (table f i) ++ (f i ∷ [])
    filter_table_more e = rw (add-one, filter_append p (table f i) (f i ∷ []), e)

    pub filter_table_less : p (f i) ≡ false → filter p (table f (i + 1)) ≡ filter p (table f i)
    filter_table_less e = rw (add-one, filter_append p (table f i) (f i ∷ []), e) (append-nil (filter p (table f i)))

    pub filter_table_few : length (filter p (table f i)) ≤ i
    filter_table_few = omega (arith, length_filter p (table f i), length_table f i)

-- such a loop's invariant: l is what was appended to old so far, out the buffer and n the count
pub record Appended {A : Type 0} (l old out : List A) (n : ℕ) : Type 0 where
  pub holds : out ≡ written l old
  pub count : n ≡ length l
  pub size : length out ≡ length old

module _ {A : Type 0} where
  pub appended_none : (old : List A) → Appended [] old old 0
  appended_none old = record { holds = refl; count = refl; size = refl }

  pub appended_one : {l old out : List A} {n : ℕ} (v : A) → n < length old → Appended l old out n → Appended (l ++ (v ∷ [])) old (set out n v) (n + 1)
  appended_one {l} {old} {out} {n} v h a =
      record {
        holds = rw (a.holds, a.count) (written_more l old v (rw a.count at h));
        count = rw (length-append l (v ∷ []), a.count);
        size = length-set out n v ∙ a.size;
      }

  pub appended_as : {l m old out : List A} {n : ℕ} → l ≡ m → Appended l old out n → Appended m old out n
  appended_as e a = rw e at a

  -- several at once
  pub appended_all : {l old out : List A} {n : ℕ} (m : List A) → n + length m ≤ length old → Appended l old out n → Appended (l ++ m) old (sets out n m) (n + length m)
  appended_all {l} {old} {out} {n} [] h a = rw add-zero (appended_as (sym (append-nil l)) a)
  appended_all {l} {old} {out} {n} (v ∷ m) h a =
      let turn = appended_all {l = l ++ (v ∷ [])} m (omega arith) (rw add-one at (appended_one v (omega arith) a)) in
      rw add-suc (rw suc-add at (appended_as (append_snoc l v m) turn))
