-- What the theory says of a choice is what the rows need: values below q, no place where L and U are both zero, and no third point over one coordinate.
-- So the entries that the factors give are the codewords of the unit messages.
use Prim.Native.Nat.{ℕ, zero, suc, ◌+◌, ◌-◌, ◌<◌, ◌≤◌}
use mathlib.Core.Path.{◌≡◌, refl, sym, ◌∙◌, ap, ap₂}
use mathlib.Core.Bool.{Bool, true, false, cond, not}
use mathlib.Core.Logic.{◌⊎◌, inl, inr}
use mathlib.Core.List.{List, [], ◌∷◌, map}
use native.Mathlib.Decide.{dec_lt, ℕ_discrete}
use native.Mathlib.Nat.{not-suc-le-zero, le_of_suc-le-suc}
use native.Mathlib.Omega.{arith}
use borrow.Author.Tests.{eq-eqb, ne_eqb, not-true}
use lib.Dec.{eqb}
use lib.ListN.{length, get_or, set, length-set, length-map}
use lib.Seq.{get_or-set_same, get_or-set_other}
use Rattle.basics.specs.Lists.{table}
use Rattle.basics.proofs.Lists.{both_left, table_as, is_table, length_table, get_or_table}
use Rattle.field.specs.Sum.{◌⊕◌}
use Rattle.field.proofs.Sum.{⊕_self}
use Rattle.field.specs.Field.{Arithmetic, Field}
use Rattle.field.specs.Galois.{size}
use Rattle.field.proofs.Laws.{ring, mul_one}
use Rattle.elliptic.specs.declared.Point.{Point}
use Rattle.elliptic.specs.declared.Curve.{Curve}
use Rattle.elliptic.specs.Curve.{point}
use Rattle.elliptic.specs.Functions.{weight}
use Rattle.elliptic.specs.Pair.{horner, evaluate, padded, step, after}
use Rattle.elliptic.proofs.Points.{Points, On, Differ, Distinct, Distinct.nil, Distinct.cons, All.nil, All.cons}
use Rattle.elliptic.proofs.Function.{Zero, Lead.top, Lead.low, evaluate_lt}
use Rattle.elliptic.proofs.Descent.{Through}
use Rattle.elliptic.proofs.Zeros.{zeros}
use Rattle.elliptic.proofs.Steps as steps
use Rattle.codewords.specs.Code.{Code, arithmetic, points}
use Rattle.codewords.specs.Codewords.{index, symbols, message, row, matrix, usable, dependent, unit_message}
use Rattle.codewords.specs.Computed.{points_of as points_at, solution, solved, last_zero, last_index}
use Rattle.codewords.proofs.Accepted.{Accepted, laws}
use Rattle.codewords.proofs.Coordinates.{points_get}
use Rattle.codewords.proofs.Places.{symbols_true, all_at, n_points}
use Rattle.codewords.proofs.Demand3.{unit_message_lem}
use Rattle.engine.specs.declared.pair.Sizes.{Sizes}
use Rattle.engine.specs.Places.{point_of, value_at}
use Rattle.engine.proofs.Runs.{point_at_lem}
use Rattle.values.specs.Values.{Shows, ShownIn, RunsFirst, points_in}
use Rattle.solving.specs.Given.{Placed}
use Rattle.solving.proofs.Link.{accepted, index_in, on_curve_lem, pts, points_same, no_symbols, sizes, is_dependent, is_usable}
use Rattle.solving.proofs.Interpolant.{shown_word}
use Rattle.solving.proofs.Arranged.{places_in_lem, apart, source, point_same, state_same, arranged_runs, arranged_zero}
use Rattle.coder.specs.Outcomes.{joined}
use Rattle.coder.proofs.Results.{the_row}
use Rattle.arrangement.specs.Arranged.{free_at, rank, Arranged}
use Rattle.arrangement.proofs.Arranged.{free_two, free_zero, free_one, rank_as, rank_inside}
use Rattle.generator.specs.Rows.{Able, Rows, RowsStep, raised_of, unit_symbols, pair_after, row_value, entry_at, symbol_at}
use Rattle.generator.proofs.Adding.{entry_is}
use Rattle.generator.proofs.Words.{rows_next}
use Rattle.matrix.specs.Given.{Begun, row_at}

-- ---- no third point over one coordinate

distinct_get : (d : Point) {l : List Point} → Distinct l → (i j : ℕ) → i < j → j < length l → Differ (get_or l i d) (get_or l j d)
distinct_get d nil i j h k = absurd (not-suc-le-zero k)
distinct_get d (cons a s) i zero h k = absurd (not-suc-le-zero h)
distinct_get d (cons a s) zero (suc j) h k = all_at d a j (le_of_suc-le-suc k)
distinct_get d (cons a s) (suc i) (suc j) h k = distinct_get d s i j (le_of_suc-le-suc h) (le_of_suc-le-suc k)

module _ {F : Arithmetic} (K : Field F) where
  infixl 70 ◌·◌
  open F use {q, ◌·◌}
  open K use {one_lt}

  line_step : (x y : ℕ) → x ⊕ x · (1 ⊕ x · 0) ⊕ y · 0 ≡ x ⊕ x · 1
  line_step x y = simp ring

  -- X + x is zero there
  line_zero : (P : Point) → P.x < q → Zero F (P.x ∷ 1 ∷ []) P
  unfolding evaluate horner
  line_zero P h = line_step P.x P.y ∙ ap (λ v. P.x ⊕ v) (mul_one K P.x h) ∙ ⊕_self P.x

  two_over : {C : Curve} (P Q R : Point) → On F C P → On F C Q → On F C R → Q.x ≡ P.x → R.x ≡ P.x → Differ P Q → Differ P R → Differ Q R → ⊥
  unfolding weight
  two_over {C} P Q R p o r e g a b c =
      let three : Points F C (P ∷ Q ∷ R ∷ []) = record { distinct = cons (cons a (cons b nil)) (cons (cons c nil) (cons nil nil)); on = cons p (cons o (cons r nil)) } in
      let through : Through F (P ∷ Q ∷ R ∷ []) 1 (P.x ∷ 1 ∷ []) =
      record {
        l = 1;
        nonzero = λ z. omega arith;
        lead = low p.x_lt (top refl one_lt);
        zeros = cons (line_zero P p.x_lt) (cons (ap (λ x. evaluate F (x ∷ 1 ∷ []) Q) (sym e) ∙ line_zero Q o.x_lt) (cons (ap (λ x. evaluate F (x ∷ 1 ∷ []) R) (sym g) ∙ line_zero R r.x_lt) nil));
      } in
      omega (arith, zeros K three through)

module _ {code : Code} (a : Accepted code) where
  abbrev F : Arithmetic
  F = arithmetic code

  abbrev at : ℕ → Point
  at t = point (get_or code.xs t 0) (get_or code.ys t 0)

  same_point_lem : (t : ℕ) → get_or (points code) t (point 0 0) ≡ at t
  same_point_lem t = points_get code.xs code.ys a.lengths t

  on_at : (t : ℕ) → t < length code.xs → On F code.curve (at t)
  on_at t h = rw (same_point_lem t) at (all_at (point 0 0) a.different.on t (omega (arith, n_points code a)))

  pub first_lt : (t : ℕ) → t < length code.xs → get_or code.xs t 0 < size code.field
  first_lt t h = (on_at t h).x_lt

  differ_at : (r t : ℕ) → r < length code.xs → t < length code.xs → (r ≡ t → ⊥) → Differ (at r) (at t)
  differ_at r t h k n =
      elim (dec_lt r t) [
        | yes l ↦ rw (same_point_lem r, same_point_lem t) at (distinct_get (point 0 0) a.different.distinct r t l (omega (arith, n_points code a)))
        | no g ↦ λ e f. (rw (same_point_lem r, same_point_lem t) at (distinct_get (point 0 0) a.different.distinct t r (omega arith) (omega (arith, n_points code a)))) (sym e) (sym f)
      ]

  pub no_third : (r s t : ℕ) → r < length code.xs → s < length code.xs → t < length code.xs → get_or code.xs s 0 ≡ get_or code.xs r 0 → get_or code.xs t 0 ≡ get_or code.xs r 0
      → (r ≡ s → ⊥) → (r ≡ t → ⊥) → (s ≡ t → ⊥) → ⊥
  no_third r s t hr hs ht e f x y z =
      two_over (laws code a) (at r) (at s) (at t) (on_at r hr) (on_at s hs) (on_at t ht) e f (differ_at r s hr hs x) (differ_at r t hr ht y) (differ_at s t hs ht z)

-- where L is not zero at the k-th point, what is solved for is the interpolant of the first k
solved_after : (F : Arithmetic) (k : ℕ) → 1 ≤ k → (ps : List Point) (us : List ℕ) → last_zero F k ps us ≡ false → solved F k ps us ≡ padded k (after F ps us k).word
unfolding solved last_index after
solved_after F k h ps us z =
    let e : suc (k - 1) ≡ k = omega arith in
    ap (λ b. let i = cond b k (k - 1) in padded k (step F (get_or ps i (point 0 0)) (get_or us i 0) (after F ps us (k - 1))).word) z
    ∙ ap (λ m. padded k (after F ps us m).word) e

-- ---- the points with the chosen ones first

module _ {code : Code} {J : List ℕ} (p : Placed code J) where
  abbrev n : ℕ
  n = length code.xs

  indices_apart : (i j : ℕ) → i < length J → j < length J → (i ≡ j → ⊥) → get_or J i 0 - 1 ≡ get_or J j 0 - 1 → ⊥
  indices_apart i j h g d e =
      let same : get_or J i 0 ≡ get_or J j 0 = omega (arith, places_in_lem p i h, places_in_lem p j g) in
      elim (dec_lt i j) [
        | yes l ↦ apart p i j l g same
        | no l ↦ apart p j i (omega arith) h (sym same)
      ]

  -- of three chosen or free points over one coordinate two are the same
  pub chosen_alone : (t i j : ℕ) → t < n → i < length J → j < length J → (get_or J i 0 - 1 ≡ t → ⊥) → (get_or J j 0 - 1 ≡ t → ⊥)
      → get_or code.xs (get_or J i 0 - 1) 0 ≡ get_or code.xs t 0 → get_or code.xs (get_or J j 0 - 1) 0 ≡ get_or code.xs t 0 → j ≡ i
  chosen_alone t i j ht hi hj di dj ei ej = by (ℕ_discrete j i)
    where
      by : Dec (j ≡ i) → j ≡ i
      by (yes e) = e
      by (no d) = absurd (no_third (accepted p) t (get_or J i 0 - 1) (get_or J j 0 - 1) ht (index_in p i hi) (index_in p j hj) ei ej (λ z. di (sym z)) (λ z. dj (sym z)) (indices_apart i j hi hj (λ z. d (sym z))))

  module _ (full : length J ≡ code.k) {px py : List ℕ} (ax : Arranged code.xs J (length J) px) (ay : Arranged code.ys J (length J) py) where
    abbrev A : Arithmetic
    A = arithmetic code

    abbrev m : ℕ
    m = code.field

    few : code.k ≤ length px
    few = omega (arith, (accepted p).k_most, ax.size)

    chosen_first : (i : ℕ) → i < code.k → get_or px i 0 ≡ get_or code.xs (get_or J i 0 - 1) 0
    chosen_first i l = ax.chosen i (omega (arith, full))

    same_state : (us : List ℕ) (i : ℕ) → i ≤ code.k → after A (points_in px py) us i ≡ after A (pts p) us i
    same_state us i l = state_same p ax ay us i (omega (arith, full))

    pub arranged_first : RunsFirst m px py code.k
    arranged_first = arranged_runs p ax ay [] (no_symbols code) code.k (omega arith) (omega (arith, full))

    unit_are : (j : ℕ) → symbols code (unit_symbols code.k j) ≡ true
    unfolding unit_message message
    unit_are j = both_left _ _ (unit_message_lem code (accepted p) j)

    pub able : Able m px py code.k
    able =
        record {
          point_lt = λ t h. let (r, l, e, f) = source p ax ay t h in rw e (first_lt (accepted p) r l);
          low_lt = λ i t h l. rw (same_state [] i (omega arith)) (evaluate_lt (laws code (accepted p)) (sizes p [] (no_symbols code) i (omega (arith, full))).low_under _);
          high_lt = λ i t h l. rw (same_state [] i (omega arith)) (evaluate_lt (laws code (accepted p)) (sizes p [] (no_symbols code) i (omega (arith, full))).high_under _);
          word_lt = λ j i t h l. rw (same_state (unit_symbols code.k j) i h) (evaluate_lt (laws code (accepted p)) (sizes p (unit_symbols code.k j) (unit_are j) i (omega (arith, full))).word_under _);
          some = λ i h z y.
              let at = point_at_lem code.xs code.ys J i (omega (arith, full)) ∙ sym (point_same p ax ay i (omega (arith, full))) in
              let state = same_state [] i (omega arith) in
              steps.one_nonzero (laws code (accepted p)) (on_curve_lem p)
              (steps.after_holds (laws code (accepted p)) (on_curve_lem p) (symbols_true code [] (no_symbols code)) i (omega (arith, full, length-map J (point_of code.xs code.ys))))
              (omega (arith, full, length-map J (point_of code.xs code.ys)))
              (ap₂ (λ s P. evaluate A s.low P) (sym state) at ∙ z) (ap₂ (λ s P. evaluate A s.high P) (sym state) at ∙ y);
          alone = λ i j r h g l e f.
              chosen_alone (get_or J i 0 - 1) j r (index_in p i (omega (arith, full))) (omega (arith, full)) (omega (arith, full))
              (indices_apart j i (omega (arith, full)) (omega (arith, full)) (λ z. omega arith)) (indices_apart r i (omega (arith, full)) (omega (arith, full)) (λ z. omega arith))
              (sym (chosen_first j (omega arith)) ∙ e ∙ chosen_first i h) (sym (chosen_first r (omega arith)) ∙ f ∙ chosen_first i h);
        }

    -- L of all but the last point decides whether the places are dependent
    zero_decides : (l u : List ℕ) (z : Sizes) {r : Bool} → ShownIn m px py (code.k - 1) l u z (pair_after m px py (code.k - 1)) → r ≡ eqb (get_or (cond z.turned u l) (code.k - 1) 0) 0
        → usable code J ≡ not r
    zero_decides l u z shown e = is_usable p [] (no_symbols code) full (arranged_zero p ax ay [] (no_symbols code) (omega (arith, full)) l u z shown e)

    -- ---- a usable choice

    module _ (works : usable code J ≡ true) {l u a b : List ℕ} (rows : Rows m px py code.k l u a b code.k) where
      abbrev word : ℕ → List ℕ
      word j = (after A (pts p) (unit_symbols code.k j) code.k).word

      abbrev value : ℕ → ℕ → ℕ
      value j t = value_at m code.xs code.ys (word j) t

      -- the row's function at the points of the places
      at_place : (j i : ℕ) → j < code.k → i < code.k → value j (get_or J i 0 - 1) ≡ cond (eqb i j) 1 0
      at_place j i h g =
          let us = unit_symbols code.k j in
          let a = steps.after_holds (laws code (accepted p)) (on_curve_lem p) (symbols_true code us (unit_are j)) code.k (omega (arith, full, length-map J (point_of code.xs code.ys))) in
          ap (evaluate A (word j)) (sym (point_at_lem code.xs code.ys J i (omega (arith, full))))
          ∙ a.takes i g ∙ get_or_table (λ t. cond (eqb t j) 1 0) code.k i 0 g

      -- and at a free one
      at_free : (j t : ℕ) → j < code.k → t < n → free_at J t ≡ 1 → entry_at m px l u a b code.k j (code.k + rank (free_at J) t) ≡ value j t
      at_free j t h g f =
          let s = code.k + rank (free_at J) t in
          let inside : s < length px = omega (arith, rank_inside n J (places_in_lem p) (apart p) t g f, full, ax.size) in
          let here : get_or px s 0 ≡ get_or code.xs t 0 = rw full at (ax.rest t g f) in
          let free : (y : ℕ) → y < code.k → get_or J y 0 - 1 ≡ t → ⊥ = λ y q e. free_one J t y f (omega (arith, full)) (omega (arith, places_in_lem p y (omega (arith, full)))) in
          entry_is (accepted p).field px l u a b code.k s j (λ y. row_value m px py code.k y code.k) (omega arith) inside able.point_lt
          (λ y q. able.word_lt y code.k s (omega arith) inside) rows.row (rows.whole (omega (arith, (accepted p).k_least)) s (omega arith) inside)
          (λ y z q r e d. chosen_alone t y z g (omega (arith, full)) (omega (arith, full)) (free y q) (free z r) (sym (chosen_first y q) ∙ e ∙ here) (sym (chosen_first z r) ∙ d ∙ here)) h
          ∙ ap₂ (λ s P. evaluate A s.word P) (same_state (unit_symbols code.k j) code.k (omega arith)) (ap₂ point here (rw full at (ay.rest t (omega (arith, (accepted p).lengths)) f)))

      solution_is : (j : ℕ) → padded code.k (word j) ≡ solution code J (unit_symbols code.k j)
      unfolding usable
      solution_is j =
          let us = unit_symbols code.k j in
          let free : dependent code J ≡ false = not-true _ works in
          ap (λ ps. padded code.k (after A ps us code.k).word) (points_same p)
          ∙ sym (solved_after A code.k (accepted p).k_least (points_at code J) us (sym (is_dependent p us (unit_are j) full refl) ∙ free))

      -- THEOREM: the symbols that the factors give are the row
      the_symbols : (j : ℕ) → j < code.k → set (table (symbol_at code.k (table (free_at J) n) (entry_at m px l u a b code.k j)) n) (get_or J j 0 - 1) 1 ≡ row code J (index j)
      unfolding unit_message
      the_symbols j h =
          let listed : Shows m code.xs code.ys 0 (word j) (table (value j) n) = record { size = length_table (value j) n; at = λ t x y. get_or_table (value j) n t 0 y } in
          is_table (value j) symbols_of 0 (λ t l. at t (rw size at l) (ℕ_discrete t c)) ∙ ap (table (value j)) size
          ∙ the_row (record { placed = p; full = full; works = works }) (index j) (shown_word code (accepted p) listed ∙ ap (λ f. map (evaluate A f) (points code)) (solution_is j))
        where
          c : ℕ
          c = get_or J j 0 - 1

          free : List ℕ
          free = table (free_at J) n

          entry : ℕ → ℕ
          entry = entry_at m px l u a b code.k j

          symbols_of : List ℕ
          symbols_of = set (table (symbol_at code.k free entry) n) c 1

          size : length symbols_of ≡ n
          size = length-set (table (symbol_at code.k free entry) n) c 1 ∙ length_table (symbol_at code.k free entry) n

          mark : (t : ℕ) → t < n → get_or free t 0 ≡ free_at J t
          mark t g = get_or_table (free_at J) n t 0 g

          -- at a place, and at none
          away : (t : ℕ) → t < n → (t ≡ c → ⊥) → (free_at J t ≡ 0) ⊎ (free_at J t ≡ 1) → symbol_at code.k free entry t ≡ value j t
          away t g d (inl z) =
              let (i, q, e) = free_zero J t z in
              let here : get_or J i 0 - 1 ≡ t = omega arith in
              rw (eq-eqb _ _ (mark t g ∙ z))
              (sym (ap (value j) (sym here) ∙ at_place j i h (omega (arith, full)) ∙ ap (λ y. cond y 1 0) (ne_eqb i j (λ w. d (sym here ∙ ap (λ y. get_or J y 0 - 1) w)))))
          away t g d (inr z) =
              rw (ne_eqb (get_or free t 0) 0 (λ w. omega (arith, w, mark t g, z)))
              (ap (λ r. entry (code.k + r)) (rank_as (λ y. get_or free y 0) (free_at J) t (λ y q. mark y (omega arith))) ∙ at_free j t h g z)

          at : (t : ℕ) → t < n → Dec (t ≡ c) → get_or symbols_of t 0 ≡ value j t
          at t g (yes e) =
              rw e (get_or-set_same (table (symbol_at code.k free entry) n) c 1 0 (rw (length_table (symbol_at code.k free entry) n) (index_in p j (omega (arith, full)))))
              ∙ sym (ap (value j) e ∙ at_place j j h h ∙ ap (λ y. cond y 1 0) (eq-eqb j j refl))
          at t g (no d) = get_or-set_other (table (symbol_at code.k free entry) n) c t 1 0 d ∙ get_or_table (symbol_at code.k free entry) n t 0 g ∙ away t g d (free_two J t)

      pub the_row_at : (j : ℕ) → j < code.k → row_at m code.k J px l u a b j ≡ row code J (index j)
      the_row_at j h = ap (λ y. set (table (symbol_at code.k (table (free_at J) y) (entry_at m px l u a b code.k j)) y) (get_or J j 0 - 1) 1) ax.size ∙ the_symbols j h

-- ---- what the arrays say

module _ {code : Code} {J : List ℕ} (p : Placed code J) (full : length J ≡ code.k) {px l u a b : List ℕ} {z : Sizes} (w : Begun code J px l u a b z) where
  pub decides : {r : Bool} → r ≡ eqb (get_or (cond z.turned u l) (code.k - 1) 0) 0 → usable code J ≡ not r
  decides = zero_decides p full w.firsts w.seconds l u z w.shown

  -- the last point is added, and then each row is that of the matrix
  pub completed : {l' u' a' b' : List ℕ} → usable code J ≡ true → RowsStep code.field (code.k - 1) px (raised_of (code.k - 1) (cond z.turned u l) (cond z.turned l u)) l u a b l' u' a' b'
      → (j : ℕ) → j < code.k → row_at code.field code.k J px l' u' a' b' j ≡ row code J (index j)
  completed works step =
      let next : code.k - 1 + 1 ≡ code.k = omega (arith, (accepted p).k_least) in
      let rows = rows_next (accepted p).field px w.py code.k (code.k - 1) (omega (arith, (accepted p).k_least)) (omega (arith, w.firsts.size, (accepted p).k_least, (accepted p).k_most))
      (able p full w.firsts w.seconds) l u z w.shown w.rows step in
      the_row_at p full w.firsts w.seconds works (rw next at rows)

  -- and they are all written
  pub completes : {l' u' a' b' : List ℕ} → usable code J ≡ true → RowsStep code.field (code.k - 1) px (raised_of (code.k - 1) (cond z.turned u l) (cond z.turned l u)) l u a b l' u' a' b'
      → joined (table (row_at code.field code.k J px l' u' a' b') code.k) ≡ joined (matrix code J)
  unfolding matrix
  completes {l'} {u'} {a'} {b'} works step = ap joined (table_as (row_at code.field code.k J px l' u' a' b') (λ j. row code J (index j)) code.k (completed works step))
