-- The points with the given ones first: each stands for one of the code's, so that the functions of the first are those of the places,
-- and values in that order can be put back.
use Prim.Native.Nat.{ℕ, ◌+◌, ◌-◌, ◌<◌, ◌≤◌}
use mathlib.Core.Path.{◌≡◌, refl, sym, ◌∙◌, ap, ap₂}
use mathlib.Core.Logic.{◌⊎◌, inl, inr}
use mathlib.Core.Bool.{Bool, true, cond}
use mathlib.Core.List.{List}
use native.Mathlib.Decide.{dec_lt}
use native.Mathlib.Omega.{arith}
use borrow.Author.Tests.{eqb-false}
use lib.Dec.{eqb}
use lib.ListN.{length, get_or}
use Rattle.basics.proofs.Lists.{get_or_table, different_get}
use Rattle.elliptic.specs.Curve.{point}
use Rattle.elliptic.specs.Pair.{evaluate, after}
use Rattle.elliptic.proofs.Steps.{after_same}
use Rattle.codewords.specs.Code.{Code, arithmetic}
use Rattle.codewords.specs.Codewords.{symbols, places_differ}
use Rattle.codewords.specs.Computed.{points_of as points_at, last_zero}
use Rattle.engine.specs.declared.pair.Sizes.{Sizes}
use Rattle.engine.specs.Places.{point_of}
use Rattle.engine.proofs.Runs.{point_at_lem}
use Rattle.values.specs.Values.{Shows, ShownIn, Coordinates, RunsWith, points_in}
use Rattle.values.proofs.Runs.{begun_size}
use Rattle.arrangement.specs.Arranged.{free_at, rank, Places, Apart, Arranged}
use Rattle.arrangement.proofs.Arranged.{free_two, free_zero, rank_all, rank_inside, rank_onto}
use Rattle.solving.specs.Given.{Placed, Posed, Laid}
use Rattle.solving.proofs.Link.{accepted, place_at_lem, all_in_lem, index_in, code_coordinates, pts, small, zero_by}

module _ {code : Code} {J : List ℕ} (p : Placed code J) where
  abbrev n : ℕ
  n = length code.xs

  pub places_in_lem : Places n J
  places_in_lem j l = let (a, b) = place_at_lem n J (all_in_lem p code.xs refl) j l in (a, omega arith)

  pub apart : Apart J
  unfolding places_differ
  apart i j l h = eqb-false (get_or J i 0) (get_or J j 0) (different_get eqb J 0 i j p.differ l h)

  pub few : length J ≤ n
  few = omega (arith, rank_all n J places_in_lem apart)

  module _ {px py : List ℕ} (ax : Arranged code.xs J (length J) px) (ay : Arranged code.ys J (length J) py) where
    second_size : length py ≡ length px
    second_size = ay.size ∙ sym (accepted p).lengths ∙ sym ax.size

    -- a point stands for one of the code's
    pub source : (s : ℕ) → s < length px → (t : ℕ) × (t < n) × (get_or px s 0 ≡ get_or code.xs t 0) × (get_or py s 0 ≡ get_or code.ys t 0)
    source s h = by (dec_lt s (length J))
      where
        by : Dec (s < length J) → (t : ℕ) × (t < n) × (get_or px s 0 ≡ get_or code.xs t 0) × (get_or py s 0 ≡ get_or code.ys t 0)
        by (yes l) = (get_or J s 0 - 1, index_in p s l, ax.chosen s l, ay.chosen s l)
        by (no l) =
            let (t, k, f, r) = rank_onto J n (s - length J) (omega (arith, rank_all n J places_in_lem apart, ax.size)) in
            let here : s ≡ length J + rank (free_at J) t = omega arith in
            (t, k, ap (λ y. get_or px y 0) here ∙ ax.rest t k f, ap (λ y. get_or py y 0) here ∙ ay.rest t (omega (arith, (accepted p).lengths)) f)

    pub arranged_coordinates : Coordinates code.field px py
    arranged_coordinates = record { as_many = second_size; below = λ i h. let (t, l, e, f) = source i h in rw f ((code_coordinates p).below t l) }

    pub point_same : (i : ℕ) → i < length J → point (get_or px i 0) (get_or py i 0) ≡ point_of code.xs code.ys (get_or J i 0)
    point_same i l = ap₂ point (ax.chosen i l) (ay.chosen i l)

    -- the functions of the first points are those of the places
    pub state_same : (us : List ℕ) (i : ℕ) → i ≤ length J → after (arithmetic code) (points_in px py) us i ≡ after (arithmetic code) (pts p) us i
    state_same us i l =
        after_same (arithmetic code) (points_in px py) (pts p) us us i
        (λ j b. get_or_table (λ i. point (get_or px i 0) (get_or py i 0)) (length px) j (point 0 0) (omega (arith, few, ax.size)) ∙ point_same j (omega arith) ∙ sym (point_at_lem code.xs code.ys J j (omega arith)))
        (λ j b. refl)

    pub arranged_runs : (us : List ℕ) → symbols code us ≡ true → (count : ℕ) → count ≤ code.k → count ≤ length J → RunsWith code.field px py us count
    arranged_runs us s count k h =
        record { enough = omega (arith, few, ax.size); small = λ i l. rw (state_same us i (omega arith)) (small p us s i (omega arith) (omega arith)) }

    -- L of the first k − 1 of them at the next
    pub arranged_zero : (us : List ℕ) → symbols code us ≡ true → code.k ≤ length J → (l u : List ℕ) (z : Sizes) {r : Bool}
        → ShownIn code.field px py (code.k - 1) l u z (after (arithmetic code) (points_in px py) us (code.k - 1)) → r ≡ eqb (get_or (cond z.turned u l) (code.k - 1) 0) 0
        → r ≡ last_zero (arithmetic code) code.k (points_at code J) us
    arranged_zero us s h l u z shown e =
        let last : code.k - 1 < length J = omega (arith, (accepted p).k_least) in
        zero_by p us s h
        (shown.low_values.at (code.k - 1) (omega arith) (omega (arith, few, ax.size))
        ∙ ap₂ (λ s P. evaluate (arithmetic code) s.low P) (state_same us (code.k - 1) (omega arith)) (point_same (code.k - 1) last))
        e

    -- the values of a function at these points, put back in the code's order
    pub restored : {f v w : List ℕ} → Shows code.field px py 0 f w → Arranged v J (length J) w → Shows code.field code.xs code.ys 0 f v
    restored {f} {v} {w} shown av = record { size = long; at = λ t _ h. by t h (free_two J t) }
      where
        long : length v ≡ n
        long = sym av.size ∙ shown.size ∙ ax.size

        value : ℕ → ℕ → ℕ
        value x y = evaluate (arithmetic code) f (point x y)

        by : (t : ℕ) → t < n → (free_at J t ≡ 0) ⊎ (free_at J t ≡ 1) → get_or v t 0 ≡ value (get_or code.xs t 0) (get_or code.ys t 0)
        by t h (inl z) =
            let (j, l, e) = free_zero J t z in
            let here : get_or J j 0 - 1 ≡ t = omega arith in
            ap (λ t. get_or v t 0) (sym here) ∙ sym (av.chosen j l) ∙ shown.at j (omega arith) (omega (arith, few, ax.size)) ∙ ap (evaluate (arithmetic code) f) (point_same j l)
            ∙ ap (λ t. value (get_or code.xs t 0) (get_or code.ys t 0)) here
        by t h (inr z) =
            let inside : length J + rank (free_at J) t < length px = omega (arith, rank_inside n J places_in_lem apart t h z, ax.size) in
            sym (av.rest t (omega (arith, long)) z) ∙ shown.at (length J + rank (free_at J) t) (omega arith) inside
            ∙ ap₂ value (ax.rest t h z) (ay.rest t (omega (arith, (accepted p).lengths)) z)

-- the arrays of a run over these points are as long as there are points
module _ {code : Code} {J : List ℕ} (p : Placed code J) {px l u : List ℕ} (laid : Laid code J px l u) where
  pub laid_points : length px ≡ length code.xs
  laid_points = laid.firsts.size

  pub laid_low : length l ≡ length code.xs
  laid_low = begun_size (arranged_coordinates p laid.firsts laid.seconds) laid.ones ∙ laid_points

  pub laid_high : length u ≡ length code.xs
  laid_high = laid.seconds.size ∙ sym (accepted p).lengths

-- whether L is zero at the k-th place, by its values
pub laid_zero : {code : Code} {J us px py l₀ : List ℕ} {r : Bool} (g : Posed code J us) → Laid code J px l₀ py
    → (l u : List ℕ) (z : Sizes) → ShownIn code.field px py (code.k - 1) l u z (after (arithmetic code) (points_in px py) us (code.k - 1)) → r ≡ eqb (get_or (cond z.turned u l) (code.k - 1) 0) 0
    → r ≡ last_zero (arithmetic code) code.k (points_at code J) us
laid_zero {us = us} g a l u z shown e = arranged_zero g.placed a.firsts a.seconds us g.are_symbols g.at_least l u z shown e
