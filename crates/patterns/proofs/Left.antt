-- Of places whose trusts never rise: what is least among the places, and among the pairs of places, that come after some.
use Prim.Native.Nat.{ℕ, zero, suc, ◌+◌, ◌-◌, ◌<◌, ◌≤◌}
use mathlib.Core.Path.{◌≡◌, refl, sym, ◌∙◌, subst}
use mathlib.Core.Bool.{Bool, true, false, cond}
use mathlib.Core.Logic.{◌⊎◌, inl, inr}
use mathlib.Core.List.Memᴰ.{cases_cons}
use mathlib.Core.List.Memᴰ.{eq_of_singleton as in_one}
use mathlib.Core.List.Memᴰ.{head as here}
use mathlib.Core.List.Memᴰ.{map as in_map}
use mathlib.Core.List.Memᴰ.{of_map as map-in}
use mathlib.Core.List.Memᴰ.{tail as there}
use mathlib.Core.List.{List, [], ◌∷◌, ◌++◌, map, Memᴰ as In}
use native.Mathlib.Omega.{arith}
use lib.Dec.{ltb}
use lib.ListN.{length, get_or, drop, length-map}
use borrow.Author.Tests.{ltb-true, ltb-false, lt-ltb, leb-true, le-leb}
use Rattle.patterns.specs.Patterns.{down}
use Rattle.patterns.specs.Computed.{single_left, pair_below, pair_left, triple_left}
use Rattle.patterns.proofs.Each.{in_each, in_down, down_in, length_down}
use Rattle.patterns.proofs.Parts.{drop_in, drop_left, drop_right, drop_append}
use Rattle.patterns.proofs.Distinct.{indices, indices_in}
use Rattle.patterns.proofs.Falling.{Falling, falling_at}

-- a list has a number that is at most a
pub record Covered (l : List ℕ) (a : ℕ) : Type 0 where
  pub b : ℕ
  pub listed : In b l
  pub most : b ≤ a

-- ---- what is behind the first

pub drop_map : {A B : Type 0} (f : A → B) (n : ℕ) (l : List A) → drop n (map f l) ≡ map f (drop n l)
drop_map f zero l = refl
drop_map f (suc n) [] = refl
drop_map f (suc n) (a ∷ l) = drop_map f n l

drop_down_in : (n k : ℕ) {i : ℕ} → In i (drop n (down k)) → i + n < k
unfolding down
drop_down_in zero k i = omega (arith, down_in k i)
drop_down_in (suc n) zero i = elim i [ ]
drop_down_in (suc n) (suc k) i = omega (arith, drop_down_in n k i)

pub in_drop_down : (n k i : ℕ) → i + n < k → In i (drop n (down k))
unfolding down
in_drop_down zero k i h = in_down k i (omega arith)
in_drop_down (suc n) zero i h = absurd (omega arith)
in_drop_down (suc n) (suc k) i h = in_drop_down n k i (omega arith)

pub in_indices : (k late early : ℕ) → late < k → early < late → In (late, early) (indices k)
in_indices k late early h g = in_each (λ late. map (λ early. (late, early)) (down late)) (in_down k late h) (in_map (λ early. (late, early)) (in_down late early g))

-- ---- a number in a list that a test decides

module _ {a : ℕ} {l : List ℕ} {t : Bool} where
  if_true : t ≡ true → In a l → In a (cond t l [])
  if_true e i = subst (λ t. In a (cond t l [])) (sym e) i

  if_in : In a (cond t l []) → (t ≡ true) × In a l
  if_in i = by t refl i
    where
      by : (b : Bool) → t ≡ b → In a (cond b l []) → (t ≡ true) × In a l
      by true e i = (e, i)
      by false e i = elim i [ ]

module _ (ts : List ℕ) where
  abbrev at : ℕ → ℕ
  at i = get_or ts i 0

  abbrev pair : ℕ × ℕ → ℕ
  pair p = at p.0 + at p.1

  -- ---- each of them is one of those left

  pub single_left_lem : (k done : ℕ) {b : ℕ} → In b (single_left ts k done) → (i : ℕ) × In i (drop done (down k)) × (b ≡ at i)
  unfolding single_left
  single_left_lem k done i =
      let (t, j) = if_in i in
      let h : done < k = ltb-true done k t in
      (k - 1 - done, in_drop_down done k (k - 1 - done) (omega arith), in_one j)

  below_left : (k : ℕ) {b : ℕ} → In b (pair_below ts k) → (p : ℕ × ℕ) × In p (indices k) × (b ≡ pair p)
  unfolding pair_below
  below_left k i =
      let (t, j) = if_in i in
      let h : 2 ≤ k = leb-true 2 k t in
      ((k - 1, k - 2), in_indices k (k - 1) (k - 2) (omega arith) (omega arith), in_one j)

  pub pair_left_lem : (k done : ℕ) {b : ℕ} → In b (pair_left ts k done) → (p : ℕ × ℕ) × In p (drop done (indices k)) × (b ≡ pair p)
  unfolding pair_left down
  pair_left_lem zero done i = elim i [ ]
  pair_left_lem (suc late) done {b} i = by (ltb done late) refl (pair_left_lem late (done - late)) i
    where
      row : List (ℕ × ℕ)
      row = map (λ early. (late, early)) (down late)

      size : length row ≡ late
      size = length-map (down late) (λ early. (late, early)) ∙ length_down late

      Left : Type 0
      Left = (p : ℕ × ℕ) × In p (drop done (row ++ indices late)) × (b ≡ pair p)

      first : done < late → (b ≡ at late + at (late - 1 - done)) ⊎ In b (pair_below ts late) → Left
      first h (inl e) = (
        (late, late - 1 - done),
        drop_left done row (indices late)
            (subst (λ l. In (late, late - 1 - done) l) (sym (drop_map (λ early. (late, early)) done (down late)))
            (in_map (λ early. (late, early)) (in_drop_down done late (late - 1 - done) (omega arith)))),
        e,
      )
      first h (inr j) =
          let (p, m, e) = below_left late j in
          let z : done - length row ≡ 0 = omega (arith, size) in
          (p, drop_right done row (indices late) (subst (λ n. In p (drop n (indices late))) (sym z) m), e)

      by : (t : Bool) → ltb done late ≡ t → (In b (pair_left ts late (done - late)) → (p : ℕ × ℕ) × In p (drop (done - late) (indices late)) × (b ≡ pair p))
          → In b (cond t ((at late + at (late - 1 - done)) ∷ pair_below ts late) (pair_left ts late (done - late))) → Left
      by true e r i = first (ltb-true done late e) (cases_cons i)
      by false e r i =
          let (p, m, f) = r i in
          (p, drop_right done row (indices late) (subst (λ n. In p (drop (done - n) (indices late))) (sym size) m), f)

  pub triple_left_lem : (k : ℕ) {b : ℕ} → In b (triple_left ts k) → (3 ≤ k) × (b ≡ at (k - 1) + (at (k - 2) + at (k - 3)))
  unfolding triple_left
  triple_left_lem k i = let (t, j) = if_in i in (leb-true 3 k t, in_one j)

  -- ---- and none of those left is less than all of them

  module _ (k : ℕ) (size : length ts ≡ k) (falls : Falling ts) where
    order : (i j : ℕ) → i ≤ j → j < k → at j ≤ at i
    order i j h g = falling_at falls i j h (omega arith)

    pub single_covers : (done : ℕ) {i : ℕ} → In i (drop done (down k)) → Covered (single_left ts k done) (at i)
    unfolding single_left
    single_covers done {i} j =
        let h : i + done < k = drop_down_in done k j in
        record { b = at (k - 1 - done); listed = if_true (lt-ltb done k (omega arith)) (here refl); most = order i (k - 1 - done) (omega arith) (omega arith) }

    below_covers : (m : ℕ) → m ≤ k → {p : ℕ × ℕ} → In p (indices m) → Covered (pair_below ts m) (pair p)
    unfolding pair_below
    below_covers m h {p} j =
        let (g, l) = indices_in m j in
        record {
          b = at (m - 1) + at (m - 2);
          listed = if_true (le-leb 2 m (omega (arith, g, l))) (here refl);
          most = omega (arith, order p.0 (m - 1) (omega (arith, g)) (omega (arith, g)), order p.1 (m - 2) (omega (arith, g, l)) (omega (arith, g, l)));
        }

    pub pair_covers : (m done : ℕ) → m ≤ k → {p : ℕ × ℕ} → In p (drop done (indices m)) → Covered (pair_left ts m done) (pair p)
    unfolding pair_left down
    pair_covers zero done h i = elim (drop_in done [] i) [ ]
    pair_covers (suc late) done h {p} i = by (ltb done late) refl (λ j. pair_covers late (done - late) (omega arith) j) (drop_append done row (indices late) i)
      where
        row : List (ℕ × ℕ)
        row = map (λ early. (late, early)) (down late)

        size_row : length row ≡ late
        size_row = length-map (down late) (λ early. (late, early)) ∙ length_down late

        in_row : In p (drop done row) → (early : ℕ) × (early + done < late) × ((late, early) ≡ p)
        in_row j =
            let (early, m, e) = map-in {A = ℕ} {B = ℕ × ℕ} (λ early. (late, early)) (drop done (down late)) (subst (λ l. In p l) (drop_map (λ early. (late, early)) done (down late)) j) in
            (early, drop_down_in done late m, e)

        next : Covered (pair_below ts late) (pair p) → Covered ((at late + at (late - 1 - done)) ∷ pair_below ts late) (pair p)
        next w = record { b = w.b; listed = there w.listed; most = w.most }

        by : (t : Bool) → ltb done late ≡ t → (In p (drop (done - late) (indices late)) → Covered (pair_left ts late (done - late)) (pair p))
            → In p (drop done row) ⊎ In p (drop (done - length row) (indices late))
            → Covered (cond t ((at late + at (late - 1 - done)) ∷ pair_below ts late) (pair_left ts late (done - late))) (pair p)
        by true e r (inl j) =
            let (early, g, f) = in_row j in
            subst (λ p. Covered ((at late + at (late - 1 - done)) ∷ pair_below ts late) (pair p)) f
            (record { b = at late + at (late - 1 - done); listed = here refl; most = omega (arith, order early (late - 1 - done) (omega (arith, g)) (omega (arith, g))) })
        by true e r (inr j) = next (below_covers late (omega arith) (drop_in (done - length row) (indices late) j))
        by false e r (inl j) = let (early, g, f) = in_row j in absurd (omega (arith, g, ltb-false done late e))
        by false e r (inr j) = r (subst (λ n. In p (drop (done - n) (indices late))) size_row j)

    pub triple_covers : (late middle first : ℕ) → late < k → middle < late → first < middle → Covered (triple_left ts k) (at late + (at middle + at first))
    unfolding triple_left
    triple_covers late middle first h g f =
        record {
          b = at (k - 1) + (at (k - 2) + at (k - 3));
          listed = if_true (le-leb 3 k (omega arith)) (here refl);
          most = omega (arith, order late (k - 1) (omega arith) (omega arith), order middle (k - 2) (omega arith) (omega arith), order first (k - 3) (omega arith) (omega arith));
        }
