-- The tests that an operation made say that the places are different points of the curve, so the engine has room for them, and what it computes there is what the definitions say.
use Prim.Native.Nat.{ℕ, ◌-◌, ◌<◌, ◌≤◌}
use mathlib.Core.Path.{◌≡◌, refl, sym, ◌∙◌, ap, ap₂}
use mathlib.Core.Bool.{Bool, true, not, cond}
use mathlib.Core.List.{List, [], ◌∷◌, ◌++◌, append-nil}
use native.Mathlib.Omega.{arith}
use borrow.Author.Tests.{eq-eqb, leb-true, lt-ltb}
use lib.Dec.{eqb, leb}
use lib.ListN.{length, get_or, take, replicate}
use Rattle.basics.specs.Lists.{all}
use Rattle.basics.proofs.Lists.{both_true, both_left, both_right, all_get, all_weaker}
use Rattle.field.specs.Field.{Arithmetic}
use Rattle.elliptic.specs.declared.Point.{Point}
use Rattle.elliptic.specs.Curve.{point}
use Rattle.elliptic.specs.Pair.{evaluate, padded, after}
use Rattle.elliptic.proofs.Points.{Points}
use Rattle.elliptic.proofs.Steps as steps
use Rattle.codewords.specs.Code.{Code, arithmetic, n}
use Rattle.codewords.specs.Codewords.{all_places, places_differ, places as different, choice, symbols, dependent, usable, relation}
use Rattle.codewords.specs.Computed.{Enough, points_of as points_in, last_zero}
use Rattle.codewords.proofs.Accepted.{Accepted, accepted_done, laws}
use Rattle.codewords.proofs.Places.{Places, places_true, symbols_true, different_points, length_points, n_points, all_at}
use Rattle.codewords.proofs.Coordinates as coordinates
use Rattle.codewords.proofs.Choice.{the_relation, related_function}
use Rattle.codewords.proofs.Computed.{computed}
use Rattle.code.specs.Lists.{is_place, is_below}
use Rattle.engine.specs.declared.pair.Lengths.{Lengths}
use Rattle.engine.specs.declared.pair.Sizes.{Sizes}
use Rattle.engine.specs.Arrays.{Pair, Filled, Small, Long, Room, WordRoom}
use Rattle.engine.specs.Places.{point_of, points_of, Chosen, Within, Runs}
use Rattle.engine.proofs.States.{low_value, room, word_room}
use Rattle.engine.proofs.Runs.{point_at_lem, within_all, runs, small_after}
use Rattle.values.specs.Values.{Coordinates}
use Rattle.solving.specs.Given.{Placed, Posed}

-- places are below 512, so that marks can be kept for them
pub places_below : (n : ℕ) (J : List ℕ) → n ≤ 288 → all (is_place n) J ≡ true → all (is_below 512) J ≡ true
places_below n J h e =
    all_weaker (is_place n) (is_below 512) J (λ a t. lt-ltb a 512 (omega (arith, leb-true a n (both_right (leb 1 a) (leb a n) t)))) e

-- a place of n, and its index
pub place_at_lem : (n : ℕ) (J : List ℕ) → all (is_place n) J ≡ true → (i : ℕ) → i < length J → (1 ≤ get_or J i 0) × (get_or J i 0 - 1 < n)
place_at_lem n J h i l =
    let p = get_or J i 0 in
    let t = all_get (is_place n) J 0 i h l in
    let least = leb-true 1 p (both_left (leb 1 p) (leb p n) t) in
    (least, omega (arith, least, leb-true p n (both_right (leb 1 p) (leb p n) t)))

-- k coefficients need no zeros
pub padded_full : (k : ℕ) (f : List ℕ) → length f ≡ k → padded k f ≡ f
padded_full k f e = let none : k - length f ≡ 0 = omega arith in ap (λ n. f ++ replicate n 0) none ∙ append-nil f

-- no symbols are symbols of every code
pub no_symbols : (code : Code) → symbols code [] ≡ true
unfolding symbols
no_symbols code = refl

module _ {code : Code} {J : List ℕ} (p : Placed code J) where
  abbrev F : Arithmetic
  F = arithmetic code

  pub accepted : Accepted code
  accepted = accepted_done code p.done

  pub are_different : different code J ≡ true
  unfolding different
  are_different = both_true (all_places code J) (places_differ code J) p.are_all_places p.differ

  pub are_places : Places code J
  are_places = places_true code J are_different

  pub is_choice : length J ≡ code.k → choice code J ≡ true
  unfolding choice
  is_choice e = both_true (different code J) (eqb (length J) code.k) are_different (eq-eqb _ _ e)

  -- the points as the engine reads them
  abbrev pub pts : List Point
  pts = points_of code.xs code.ys J

  pub points_same : pts ≡ points_in code J
  points_same = go J
    where
      go : (l : List ℕ) → points_of code.xs code.ys l ≡ points_in code l
      go [] = refl
      go (a ∷ l) = ap₂ ◌∷◌ (sym (coordinates.point_at_lem code accepted.lengths a)) (go l)

  -- the point at the i-th place
  pub chosen : (i : ℕ) → i < length J → point_of code.xs code.ys (get_or J i 0) ≡ get_or (points_in code J) i (point 0 0)
  chosen i h = sym (point_at_lem code.xs code.ys J i h) ∙ ap (λ l. get_or l i (point 0 0)) points_same

  pub on_curve_lem : Points F code.curve pts
  on_curve_lem = rw points_same (different_points code accepted are_places)

  pub within : (count : ℕ) → count ≤ length J → Within code.xs code.ys J count
  unfolding all_places
  within count h = within_all count (sym accepted.lengths) p.are_all_places h

  pub all_in_lem : (f : List ℕ) → length f ≡ n code → all (is_place (length f)) J ≡ true
  unfolding all_places
  all_in_lem f e = rw e p.are_all_places

  pub are_chosen : (f : List ℕ) → length f ≡ n code → (count : ℕ) → count ≤ length J → Chosen (length f) J count
  are_chosen f e count h = record { enough = h; each_is_place = λ i l. let t = place_at_lem (length f) J (all_in_lem f e) i (omega arith) in (t.0, omega (arith, t.0, t.1)) }

  pub k_fits : code.k ≤ 288
  k_fits = omega (arith, accepted.k_most, accepted.n_most)

  -- the index of the coordinates of the i-th place
  pub index_in : (i : ℕ) → i < length J → get_or J i 0 - 1 < length code.xs
  index_in i h = (place_at_lem (n code) J (all_in_lem code.xs refl) i h).1

  pub code_coordinates : Coordinates code.field code.xs code.ys
  code_coordinates =
      record {
        as_many = sym accepted.lengths;
        below = λ i h.
            let on = all_at (point 0 0) accepted.different.on i (omega (arith, n_points code accepted)) in
            rw (coordinates.points_get code.xs code.ys accepted.lengths i) at on.y_lt;
      }

  module _ (us : List ℕ) (s : symbols code us ≡ true) where
    pub may_run : (count : ℕ) → count ≤ code.k → count ≤ length J → Runs code.field code.xs code.ys J us count
    may_run count k h = runs accepted.field code.xs code.ys J on_curve_lem (symbols_true code us s) (omega (arith, accepted.k_most, accepted.n_most)) (within count h)

    pub small : (i : ℕ) → i ≤ code.k → i ≤ length J → Small (after F pts us i)
    small i k h = small_after accepted.field code.xs code.ys J on_curve_lem (symbols_true code us s) i (omega (arith, accepted.k_most, accepted.n_most)) h

    pub sizes : (i : ℕ) → i ≤ length J → steps.Sizes F i (after F pts us i)
    sizes i h = rw points_same (steps.after_sizes (laws code accepted) (different_points code accepted are_places) (symbols_true code us s) i (omega (arith, length_points code J)))

    -- whether L is zero at the last of k places: by its value there, and by its coefficients
    pub zero_by : {v : ℕ} {r : Bool} → code.k ≤ length J → v ≡ evaluate F (after F pts us (code.k - 1)).low (point_of code.xs code.ys (get_or J (code.k - 1) 0)) → r ≡ eqb v 0
        → r ≡ last_zero F code.k (points_in code J) us
    unfolding last_zero
    zero_by h q e =
        e ∙ ap (λ v. eqb v 0)
        (q ∙ ap₂ (λ l P. evaluate F (after F l us (code.k - 1)).low P) points_same (chosen (code.k - 1) (omega (arith, accepted.k_least))))

    pub zero_last : {l u : List ℕ} {z : Sizes} {a : ℕ} {r : Bool} → code.k ≤ length J → Pair l u z (after F pts us (code.k - 1))
        → a ≡ get_or J (code.k - 1) 0 → r ≡ eqb (evaluate F (take z.low (cond z.turned u l)) (point_of code.xs code.ys a)) 0
        → r ≡ last_zero F code.k (points_in code J) us
    zero_last {a = a} h q d e =
        zero_by h (low_value q F (point_of code.xs code.ys a) ∙ ap (λ a. evaluate F (after F pts us (code.k - 1)).low (point_of code.xs code.ys a)) d) e

    pub is_dependent : {r : Bool} → length J ≡ code.k → r ≡ last_zero F code.k (points_in code J) us → dependent code J ≡ r
    is_dependent e h = (computed code p.done).dependent_by J us (is_choice e) s ∙ sym h

    pub is_usable : {r : Bool} → length J ≡ code.k → r ≡ last_zero F code.k (points_in code J) us → usable code J ≡ not r
    unfolding usable
    is_usable e h = ap not (is_dependent e h)

    -- the relation of dependent places, as L stands in its array
    pub relation_low : {l u : List ℕ} {z : Sizes} → length J ≡ code.k → Pair l u z (after F pts us (code.k - 1)) → dependent code J ≡ true
        → padded code.k (take z.low (cond z.turned u l)) ≡ relation code J
    relation_low e q d =
        let low = (after F (points_in code J) us (code.k - 1)).low in
        let size : length low ≡ code.k = (related_function code accepted are_places e (the_relation code accepted are_places e us (symbols_true code us s) d)).size in
        ap (padded code.k) (q.low.first ∙ ap (λ l. (after F l us (code.k - 1)).low) points_same)
        ∙ padded_full code.k low size ∙ sym ((computed code p.done).relation_by J us (is_choice e) s d)

-- symbols at k usable places or more can be solved for
pub posed_enough : {code : Code} {J us : List ℕ} → Posed code J us → (length J ≡ code.k → usable code J ≡ true) → Enough code J us
posed_enough g u = record { are_places = are_different g.placed; are_symbols = g.are_symbols; lengths = g.lengths; at_least = g.at_least; works = u }

-- where the run past the first k − 1 places stands, there is room for one more
pub has_room : {code : Code} {J us l u f : List ℕ} {n : Lengths} (g : Posed code J us) → Filled l u f n (after (arithmetic code) (pts g.placed) us (code.k - 1)) → Long l u → 292 ≤ length f → Room l u n.pair × WordRoom f n
has_room {code} {us = us} g q long more =
    let few = small g.placed us g.are_symbols (code.k - 1) (omega arith) (omega (arith, g.at_least)) in (room q.pair few long, word_room q few more)
