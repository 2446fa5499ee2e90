-- The points at different places of a code, and what the tests of specs/Codewords.antt say of the functions' values there.
use Prim.Native.Nat.{ℕ, zero, suc, ◌-◌, ◌<◌, ◌≤◌}
use mathlib.Core.Path.{◌≡◌, refl, sym, ◌∙◌, ap, ap₂}
use mathlib.Core.Bool.{Bool, true, ◌&&◌}
use mathlib.Core.List.{List, [], ◌∷◌, map}
use native.Mathlib.Omega.{arith}
use native.Mathlib.Decide.{dec_lt}
use native.Mathlib.Nat.{le_of_suc-le-suc}
use lib.Dec.{eqb, leb, ltb}
use lib.ListN.{length, get_or, length-map}
use borrow.Author.Tests.{eqb-true, eqb-false, eq-eqb, leb-true, le-leb, ltb-true, lt-ltb}
use Rattle.basics.specs.Lists.{all, different}
use Rattle.basics.proofs.Lists.{both_left, both_right, both_true, same_true, eq_same, get_or_map_in}
use Rattle.elliptic.specs.declared.Point.{Point}
use Rattle.elliptic.specs.Curve.{point}
use Rattle.elliptic.specs.Functions.{value}
use Rattle.elliptic.proofs.Points.{On, Points, Differ, All, All.nil, All.cons, Distinct, Distinct.nil, Distinct.cons, all_map}
use Rattle.elliptic.proofs.Function.{Under, Zero}
use Rattle.elliptic.proofs.Kernel.{values}
use Rattle.elliptic.proofs.Values.{value_evaluate}
use Rattle.codewords.specs.Code.{Code, arithmetic, q, n, points, points_at}
use Rattle.codewords.specs.Codewords.{place, symbol_at, agrees, point_at, all_places, places_differ, places, choice, symbols, message, word, zero_on}
use Rattle.codewords.specs.Computed.{points_of}
use Rattle.codewords.proofs.Tests.{all_true, true_all}
use Rattle.codewords.proofs.Counting.{Apart, Unique, Unique.none, Unique.add, different_unique, unique_different}
use Rattle.codewords.proofs.Listing.{Listed}
use Rattle.codewords.proofs.Accepted.{Accepted, laws}

pub length_points_at : (xs ys : List ℕ) → length xs ≡ length ys → length (points_at xs ys) ≡ length xs
unfolding points_at
length_points_at [] ys e = refl
length_points_at (x ∷ xs) [] e = absurd (omega arith)
length_points_at (x ∷ xs) (y ∷ ys) e = ap suc (length_points_at xs ys (omega arith))

-- ---- points of a list at one place and at two

pub all_at : {A : Type 0} {P : A → Type 0} (d : A) {l : List A} → All P l → (i : ℕ) → i < length l → P (get_or l i d)
all_at d nil i h = absurd (omega arith)
all_at d (cons k ks) zero h = k
all_at d (cons k ks) (suc i) h = all_at d ks i (le_of_suc-le-suc h)

differ_lt : {l : List Point} → Distinct l → (d : Point) (i j : ℕ) → i < j → j < length l → Differ (get_or l i d) (get_or l j d)
differ_lt nil d i j h k = absurd (omega arith)
differ_lt (cons a u) d i zero h k = absurd (omega arith)
differ_lt (cons a u) d zero (suc j) h k = all_at d a j (le_of_suc-le-suc k)
differ_lt (cons a u) d (suc i) (suc j) h k = differ_lt u d i j (le_of_suc-le-suc h) (le_of_suc-le-suc k)

differ_at : {l : List Point} → Distinct l → (d : Point) (i j : ℕ) → i < length l → j < length l → (i ≡ j → ⊥) → Differ (get_or l i d) (get_or l j d)
differ_at {l} u d i j hi hj n = by (dec_lt i j)
  where
    by : Dec (i < j) → Differ (get_or l i d) (get_or l j d)
    by (yes h) = differ_lt u d i j h hj
    by (no h) = λ e f. differ_lt u d j i (omega arith) hi (sym e) (sym f)

module _ (code : Code) where
  -- ---- what the tests say

  abbrev pub Spot : ℕ → Type 0
  Spot p = (1 ≤ p) × (p ≤ n code)

  -- different places
  pub record Places (J : List ℕ) : Type 0 where
    pub spots : All Spot J
    pub unique : Unique J

  pub places_true : (J : List ℕ) → places code J ≡ true → Places J
  unfolding places all_places places_differ
  places_true J e =
      let spot : ℕ → Bool = λ p. leb 1 p && leb p (n code) in
      record {
        spots = all_map (λ p h. (leb-true 1 p (both_left (leb 1 p) _ h), leb-true p _ (both_right (leb 1 p) _ h))) (all_true spot J (both_left (all spot J) (different eqb J) e));
        unique = different_unique eqb eqb-false J (both_right (all spot J) (different eqb J) e);
      }

  pub true_places : {J : List ℕ} → Places J → places code J ≡ true
  unfolding places all_places places_differ
  true_places {J} P =
      both_true (all_places code J) (places_differ code J)
      (true_all (all_map (λ p h. both_true (leb 1 p) _ (le-leb 1 p h.0) (le-leb p (n code) h.1)) P.spots))
      (unique_different eqb eqb-true P.unique)

  pub choice_places : (J : List ℕ) → choice code J ≡ true → Places J
  unfolding choice
  choice_places J e = places_true J (both_left (places code J) _ e)

  pub choice_length : (J : List ℕ) → choice code J ≡ true → length J ≡ code.k
  unfolding choice
  choice_length J e = eqb-true _ _ (both_right (places code J) _ e)

  pub true_choice : {J : List ℕ} → Places J → length J ≡ code.k → choice code J ≡ true
  unfolding choice
  true_choice {J} P e = both_true (places code J) (eqb (length J) code.k) (true_places P) (eq-eqb _ _ e)

  pub symbols_true : (us : List ℕ) → symbols code us ≡ true → All (λ u. u < q code) us
  unfolding symbols
  symbols_true us e = all_map (λ u h. ltb-true u _ h) (all_true (λ u. ltb u (q code)) us e)

  pub true_message : {msg : List ℕ} → Listed (q code) code.k msg → message code msg ≡ true
  unfolding message symbols
  true_message {msg} u = both_true (symbols code msg) (eqb (length msg) code.k) (true_all (all_map (λ c h. lt-ltb c (q code) h) u.symbols)) (eq-eqb _ _ u.size)

  pub message_listed : (msg : List ℕ) → message code msg ≡ true → Listed (q code) code.k msg
  unfolding message
  message_listed msg e = record { symbols = symbols_true msg (both_left (symbols code msg) _ e); size = eqb-true _ _ (both_right (symbols code msg) _ e) }

  -- ---- the points at the places

  pub length_points : (J : List ℕ) → length (points_of code J) ≡ length J
  length_points J = length-map J (λ p. point_at code (place p))

module _ (code : Code) (a : Accepted code) where
  pub n_points : length (points code) ≡ n code
  n_points = length_points_at code.xs code.ys a.lengths

  on_points : {J : List ℕ} → All (Spot code) J → All (On (arithmetic code) code.curve) (points_of code J)
  unfolding point_at
  on_points nil = nil
  on_points (cons {a = p} h hs) = cons (all_at (point 0 0) a.different.on (p - 1) (omega (arith, n_points))) (on_points hs)

  apart_points : {p : ℕ} {J : List ℕ} → Spot code p → All (Spot code) J → Apart p J → All (Differ (point_at code (place p))) (points_of code J)
  unfolding point_at
  apart_points s nil nil = nil
  apart_points {p} s (cons {a = r} h hs) (cons d ds) =
      cons (differ_at a.different.distinct (point 0 0) (p - 1) (r - 1) (omega (arith, n_points)) (omega (arith, n_points)) (λ e. d (omega arith))) (apart_points s hs ds)

  distinct_from : {J : List ℕ} → All (Spot code) J → Unique J → Distinct (points_of code J)
  distinct_from nil none = nil
  distinct_from (cons s ss) (add d u) = cons (apart_points s ss d) (distinct_from ss u)

  pub different_points : {J : List ℕ} → Places code J → Points (arithmetic code) code.curve (points_of code J)
  different_points P = record { distinct = distinct_from P.spots P.unique; on = on_points P.spots }

  -- ---- values there

  -- the symbols of a codeword at the places are the function's values at the points
  pub word_values : {k : ℕ} {f : List ℕ} → Under (arithmetic code) k f → {J : List ℕ} → All (Spot code) J
      → map (λ p. symbol_at (word code f) (place p)) J ≡ values (arithmetic code) f (points_of code J)
  unfolding symbol_at word point_at
  word_values u nil = refl
  word_values {f = f} u (cons {a = p} s ss) =
      ap₂ ◌∷◌
      (get_or_map_in (value (arithmetic code) f) (points code) (p - 1) (point 0 0) 0 (omega (arith, n_points)) ∙ value_evaluate (laws code a) u _)
      (word_values u ss)

  module _ {k : ℕ} {f : List ℕ} (u : Under (arithmetic code) k f) where
    pub agrees_true : {J : List ℕ} → All (Spot code) J → (msg : List ℕ) → agrees (word code f) J msg ≡ true → values (arithmetic code) f (points_of code J) ≡ msg
    unfolding agrees
    agrees_true s msg e = sym (word_values u s) ∙ same_true _ _ e

    pub true_agrees : {J : List ℕ} → All (Spot code) J → (msg : List ℕ) → values (arithmetic code) f (points_of code J) ≡ msg → agrees (word code f) J msg ≡ true
    unfolding agrees
    true_agrees s msg e = eq_same _ _ (word_values u s ∙ e)

    pub zero_on_true : (J : List ℕ) → zero_on code J f ≡ true → All (Zero (arithmetic code) f) (points_of code J)
    unfolding zero_on
    zero_on_true J e = go (all_true (λ p. eqb (value (arithmetic code) f (point_at code (place p))) 0) J e)
      where
        go : {J : List ℕ} → All (λ p. eqb (value (arithmetic code) f (point_at code (place p))) 0 ≡ true) J → All (Zero (arithmetic code) f) (points_of code J)
        go nil = nil
        go (cons h hs) = cons (sym (value_evaluate (laws code a) u _) ∙ eqb-true _ 0 h) (go hs)

    pub true_zero_on : (J : List ℕ) → All (Zero (arithmetic code) f) (points_of code J) → zero_on code J f ≡ true
    unfolding zero_on
    true_zero_on J z = true_all (go J z)
      where
        go : (J : List ℕ) → All (Zero (arithmetic code) f) (points_of code J) → All (λ p. eqb (value (arithmetic code) f (point_at code (place p))) 0 ≡ true) J
        go [] nil = nil
        go (p ∷ J) (cons h hs) = cons (eq-eqb _ 0 (value_evaluate (laws code a) u _ ∙ h)) (go J hs)
