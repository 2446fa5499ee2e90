-- The least so far with one part of what is left: with the part's number where its test passes, and as it was where not.
use Prim.Native.Nat.{ℕ, zero, suc, ◌+◌, ◌*◌, ◌-◌, ◌/◌, ◌<◌, ◌≤◌, min}
use mathlib.Core.Path.{◌≡◌, refl, sym, ◌∙◌, ap}
use mathlib.Core.Bool.{Bool, true, false, ◌&&◌, false≢true}
use mathlib.Core.Logic.{◌⊎◌, inl, inr}
use mathlib.Core.List.{List, [], ◌∷◌, ◌++◌}
use native.Mathlib.Omega.{arith}
use borrow.Author.Tests.{leb-true, leb-false, lt-ltb, le-ltb, le-leb, lt-leb}
use lib.Dec.{leb}
use lib.ListN.{get_or}
use Rattle.basics.proofs.Lists.{both}
use Rattle.patterns.specs.Cheapest.{least, gap_to}
use Rattle.patterns.specs.Computed.{single_left, pair_below, pair_left, triple_left, least_left}

-- ---- lists

min_assoc : (a b c : ℕ) → min (min a b) c ≡ min a (min b c)
min_assoc a b c = omega arith

sub_min : (a b : ℕ) → a - b ≡ a - min a b
sub_min a b = omega arith

least_min : (a b : ℕ) (l : List ℕ) → least (min a b) l ≡ min a (least b l)
unfolding least
least_min a b [] = refl
least_min a b (t ∷ ts) = min_assoc a b (least t ts)

pub least_append : (c : ℕ) (l m : List ℕ) → least c (l ++ m) ≡ least (least c l) m
unfolding least
least_append c [] m = refl
least_append c (t ∷ ts) m = ap (min c) (least_append t ts m) ∙ sym (least_min c (least t ts) m)

-- a gap is 0 where nothing is less than the cost, so the cost may be among the numbers
pub gap_least : (c : ℕ) (l : List ℕ) → gap_to c l ≡ c - least c l
unfolding least gap_to
gap_least c [] = omega arith
gap_least c (t ∷ ts) = sub_min c (least t ts)

-- ---- parts

module _ (ts : List ℕ) where
  -- the trust of a place
  abbrev at : ℕ → ℕ
  at i = get_or ts i 0

  pub single_some : (low k done : ℕ) → done < k → least low (single_left ts k done) ≡ min low (at (k - 1 - done))
  unfolding least single_left
  single_some low k done h = rw (lt-ltb done k h)

  pub single_none : (low k done : ℕ) → k ≤ done → least low (single_left ts k done) ≡ low
  unfolding least single_left
  single_none low k done h = rw (le-ltb done k h)

  pub below_some : (low k : ℕ) → 2 ≤ k → least low (pair_below ts k) ≡ min low (at (k - 1) + at (k - 2))
  unfolding least pair_below
  below_some low k h = rw (le-leb 2 k h)

  pub below_none : (low k : ℕ) → k < 2 → least low (pair_below ts k) ≡ low
  unfolding least pair_below
  below_none low k h = rw (lt-leb 2 k h)

  pub triple_some : (low k : ℕ) → 3 ≤ k → least low (triple_left ts k) ≡ min low (at (k - 1) + (at (k - 2) + at (k - 3)))
  unfolding least triple_left
  triple_some low k h = rw (le-leb 3 k h)

  pub triple_none : (low k : ℕ) → k < 3 → least low (triple_left ts k) ≡ low
  unfolding least triple_left
  triple_none low k h = rw (lt-leb 3 k h)

  -- ---- pairs, by the last of k places as the later

  pub row_some : (low k left : ℕ) → left + 1 < k → least low (pair_left ts k left) ≡ least (min low (at (k - 1) + at (k - 2 - left))) (pair_below ts (k - 1))
  unfolding least pair_left
  row_some low zero left h = absurd (omega arith)
  row_some low (suc late) left h =
      let later : suc late - 1 ≡ late = omega arith in
      let earlier : suc late - 2 - left ≡ late - 1 - left = omega arith in
      rw (lt-ltb left late (omega arith), later, earlier) (sym (least_min low (at late + at (late - 1 - left)) (pair_below ts late)))

  pub row_none : (low k left : ℕ) → k < 2 → least low (pair_left ts k left) ≡ low
  unfolding least pair_left
  row_none low zero left h = refl
  row_none low (suc zero) left h = rw (le-ltb left 0 (omega arith))
  row_none low (suc (suc k)) left h = absurd (omega arith)

  pub row_passed : (k left : ℕ) → 1 ≤ k → k - 1 ≤ left → pair_left ts (k - 1) (left - (k - 1)) ≡ pair_left ts k left
  unfolding pair_left
  row_passed zero left h g = absurd (omega arith)
  row_passed (suc late) left h g = let later : suc late - 1 ≡ late = omega arith in rw (later, le-ltb left late (omega arith))

-- the test of passing
pub passed_true : (k left : ℕ) → (leb 2 k && leb (k - 1) left) ≡ true → (2 ≤ k) × (k - 1 ≤ left)
passed_true k left e = let (h, g) = both (leb 2 k) (leb (k - 1) left) e in (leb-true 2 k h, leb-true (k - 1) left g)

pub passed_false : (k left : ℕ) → (leb 2 k && leb (k - 1) left) ≡ false → (k < 2) ⊎ (left + 1 < k)
passed_false k left e = by (leb 2 k) (leb (k - 1) left) refl refl e
  where
    by : (a b : Bool) → leb 2 k ≡ a → leb (k - 1) left ≡ b → (a && b) ≡ false → (k < 2) ⊎ (left + 1 < k)
    by false b p q e = inl (leb-false 2 k p)
    by true false p q e = inr (omega (arith, leb-false (k - 1) left q))
    by true true p q e = absurd (false≢true (sym e))

-- ---- all parts

module _ (ts : List ℕ) (k s tries cost : ℕ) where
  pub least_parts : {single left pair r : ℕ} → single ≡ least cost (single_left ts k (tries / s)) → left ≡ tries - k * s
      → pair ≡ least single (pair_left ts k (left / (s * s))) → r ≡ least pair (triple_left ts k) → r ≡ least cost (least_left ts k s tries)
  unfolding least_left
  least_parts e f g h = h ∙ rw (g, e, f) (sym (least_append cost singles (pairs ++ triple_left ts k) ∙ least_append (least cost singles) pairs (triple_left ts k)))
    where
      singles : List ℕ
      singles = single_left ts k (tries / s)

      pairs : List ℕ
      pairs = pair_left ts k ((tries - k * s) / (s * s))
