-- F with the multiple of L that makes it right at the last place is what is solved for, since L is not zero there.
use Prim.Native.Nat.{ℕ, zero, suc, ◌+◌, ◌-◌, ◌<◌, ◌≤◌}
use mathlib.Core.Path.{◌≡◌, refl, sym, ◌∙◌, ap, ap₂}
use mathlib.Core.Bool.{Bool, true, false, not, cond, ◌&&◌}
use mathlib.Core.List.{List, [], ◌∷◌, ◌++◌, map}
use native.Mathlib.Decide.{dec_lt}
use native.Mathlib.Omega.{arith}
use borrow.Author.Tests.{eqb-true, eqb-false}
use lib.Dec.{eqb}
use lib.ListN.{length, get_or, take, drop, replicate, length-map, get_or-append}
use lib.Seq.{get_or-append-add, get_or-take, get_or-drop, length-take-le, length_front}
use Rattle.basics.specs.Lists.{Holds, table}
use Rattle.basics.proofs.Lists.{holds_as, holds_length, is_table}
use Rattle.field.specs.Sum.{◌⊕◌}
use Rattle.field.specs.Field.{Arithmetic, Field}
use Rattle.field.proofs.Laws.{ring}
use Rattle.elliptic.specs.declared.Point.{Point}
use Rattle.elliptic.specs.Curve.{point}
use Rattle.elliptic.specs.Pair.{State, evaluate, add_scaled, corrected, padded, step, after}
use Rattle.elliptic.proofs.Function.{evaluate_add, length_add, length_add_longer}
use Rattle.elliptic.proofs.Padding.{evaluate_pad}
use Rattle.elliptic.proofs.Steps as steps
use Rattle.codewords.specs.Code.{Code, arithmetic, points}
use Rattle.codewords.specs.Codewords.{symbols, dependent}
use Rattle.codewords.specs.Computed.{points_of, last_zero, last_index, solved, solution}
use Rattle.codewords.proofs.Accepted.{Accepted, laws}
use Rattle.codewords.proofs.Coordinates.{values_table}
use Rattle.codewords.proofs.Places.{symbols_true, different_points, length_points}
use Rattle.engine.specs.declared.pair.Lengths.{Lengths}
use Rattle.engine.specs.declared.pair.Sizes.{Sizes}
use Rattle.engine.specs.Arrays.{Filled}
use Rattle.engine.specs.Places.{point_of, value_at}
use Rattle.engine.proofs.Runs.{point_at_lem, step_word}
use Rattle.values.specs.Values.{Shows, ShownIn, points_in}
use Rattle.arrangement.specs.Arranged.{Arranged}
use Rattle.values.proofs.Sweeps.{swept_add}
use Rattle.values.proofs.Steps.{corrects}
use Rattle.solving.specs.Given.{Placed, Solving, HoldsFunction, solved_word, missing}
use Rattle.solving.proofs.Link.{accepted, are_places, on_curve_lem, pts, points_same, chosen}
use Rattle.solving.proofs.Free.{is_free, index_lt, index_least}
use Rattle.solving.proofs.Arranged.{few, point_same, state_same, restored}

pub take_most : (n : ℕ) (l : List ℕ) → length (take n l) ≤ n
take_most zero l = omega arith
take_most (suc n) [] = omega arith
take_most (suc n) (a ∷ l) = omega (arith, take_most n l)

-- what is corrected, and made k coefficients
module _ (F : Arithmetic) (P : Point) (v k : ℕ) (g f : List ℕ) where
  sum_length : (t : ℕ) → length g ≤ k → length f ≤ k → length (add_scaled F t g f) ≤ k
  sum_length t a b =
      elim (dec_lt (length f) (length g)) [
        | yes l ↦ omega (arith, length_add_longer F t g f (omega arith))
        | no h ↦ omega (arith, length_add F t g f (omega arith))
      ]

  pub corrected_length : length g ≤ k → length f ≤ k → length (corrected F P v g f) ≤ k
  unfolding corrected
  corrected_length a b = sum_length _ a b

pub padded_holds : {f g l : List ℕ} {size k : ℕ} → Holds f size l → take k g ≡ take size f ++ replicate (k - size) 0 → k ≤ length g → Holds g k (padded k l)
padded_holds {k = k} h e w = record { within = w; first = e ∙ ap₂ (λ a n. a ++ replicate (k - n) 0) h.first (sym (holds_length h)) }

-- the values of a function at all points, as a list
pub shown_values : (code : Code) → Accepted code → {f v : List ℕ} → Shows code.field code.xs code.ys 0 f v → v ≡ map (evaluate (arithmetic code) f) (points code)
shown_values code a {f} {v} s =
    let value = value_at code.field code.xs code.ys f in
    is_table value v 0 (λ i h. s.at i (omega arith) (omega (arith, s.size))) ∙ ap (table value) s.size ∙ sym (values_table code a.lengths f)

-- they are the values of its k coefficients
shown_padded : (code : Code) → Accepted code → {xs ys f v : List ℕ} {d : ℕ} → Shows code.field xs ys d f v → Shows code.field xs ys d (padded code.k f) v
shown_padded code a {f = f} s = record { size = s.size; at = λ i l h. s.at i l h ∙ sym (evaluate_pad (laws code a) f (code.k - length f) _) }

pub shown_word : (code : Code) → Accepted code → {f v : List ℕ} → Shows code.field code.xs code.ys 0 f v → v ≡ map (evaluate (arithmetic code) (padded code.k f)) (points code)
shown_word code a s = shown_values code a (shown_padded code a s)

-- the values at the first points are known, and put before the others
headed : {m : ℕ} {xs ys : List ℕ} (us : List ℕ) {f v : List ℕ} (c : ℕ) → c ≤ length us → c ≤ length xs → ((i : ℕ) → i < c → get_or us i 0 ≡ value_at m xs ys f i) → Shows m xs ys c f v
    → Shows m xs ys 0 f (take c us ++ drop c v)
headed {m} {xs} {ys} us {f} {v} c e h first s =
    record { size = length_front v (take c us) c (front ∙ sym (length-take-le c v (omega (arith, s.size)))) ∙ s.size; at = λ i _ l. by i l (dec_lt i c) }
  where
    front : length (take c us) ≡ c
    front = length-take-le c us e

    by : (i : ℕ) → i < length xs → Dec (i < c) → get_or (take c us ++ drop c v) i 0 ≡ value_at m xs ys f i
    by i l (yes k) = get_or-append (take c us) (drop c v) 0 i (omega (arith, front)) ∙ get_or-take c us i 0 k ∙ first i k
    by i l (no k) =
        let here : i ≡ length (take c us) + (i - c) = omega (arith, front) in
        let there : c + (i - c) ≡ i = omega arith in
        ap (λ i. get_or (take c us ++ drop c v) i 0) here ∙ get_or-append-add (take c us) (drop c v) (i - c) 0 ∙ get_or-drop c v (i - c) 0 ∙ ap (λ i. get_or v i 0) there
        ∙ s.at i (omega arith) l

-- a multiple of what is zero at a point changes no value there
module _ {F : Arithmetic} (K : Field F) where
  infixl 70 ◌·◌
  open F use {◌·◌}

  nothing : (a t : ℕ) → a ⊕ t · 0 ≡ a
  nothing a t = simp ring

  unchanged : (P Q : Point) (v : ℕ) (g f : List ℕ) → evaluate F g Q ≡ 0 → evaluate F (corrected F P v g f) Q ≡ evaluate F f Q
  unfolding corrected
  unchanged P Q v g f z = let t = (v ⊕ evaluate F f P) · Arithmetic.inv F (evaluate F g P) in evaluate_add K t g f Q ∙ ap (λ b. evaluate F f Q ⊕ t · b) z ∙ nothing (evaluate F f Q) t

-- nothing is solved for where there are k dependent places
pub unsolved : {code : Code} {J : List ℕ} {claim : Type 0} → not (eqb (length J) code.k && dependent code J) ≡ false → Solving code J claim false
unsolved h = record { free = sym h; holds = λ t. let z : ◌≡◌ {A = ℕ} 0 1 = cc in absurd (omega arith) }

module _ {code : Code} {J : List ℕ} (p : Placed code J) (us : List ℕ) (s : symbols code us ≡ true) (h : code.k ≤ length J) {z : Bool}
    (e : z ≡ last_zero (arithmetic code) code.k (points_of code J) us) (inside : cond z code.k (code.k - 1) ≡ length J → ⊥) where
  abbrev F : Arithmetic
  F = arithmetic code

  abbrev c : ℕ
  c = code.k - 1

  abbrev at : ℕ → Point
  at i = get_or (points_of code J) i (point 0 0)

  abbrev state : State
  state = after F (points_of code J) us c

  -- L is not zero at the last place that is used
  not_zero : evaluate F state.low (at (cond z code.k c)) ≡ 0 → ⊥
  unfolding last_zero
  not_zero = by z refl
    where
      by : (b : Bool) → z ≡ b → evaluate F state.low (at (cond b code.k c)) ≡ 0 → ⊥
      by false t = eqb-false _ 0 (sym e ∙ t)
      by true t = λ g.
          let i : suc c ≡ code.k = omega (arith, (accepted p).k_least) in
          let more : code.k < length J = let past : code.k ≡ length J → ⊥ = λ q. inside (ap (λ b. cond b code.k c) t ∙ q) in omega arith in
          steps.one_further (laws code (accepted p)) (different_points code (accepted p) (are_places p))
          (steps.after_holds (laws code (accepted p)) (different_points code (accepted p) (are_places p)) (symbols_true code us s) c (omega (arith, length_points code J)))
          (omega (arith, length_points code J)) (eqb-true _ 0 (sym e ∙ t)) (ap (λ j. evaluate F state.low (at j)) i ∙ g)

  -- the interpolant of the first k − 1 places, corrected there, is what is solved for
  module _ {i : ℕ} (d : i ≡ cond z code.k c) where
    pub is_solution : {l f : List ℕ} → l ≡ (after F (pts p) us c).low → f ≡ (after F (pts p) us c).word
        → padded code.k (corrected F (point_of code.xs code.ys (get_or J i 0)) (get_or us i 0) l f) ≡ solution code J us
    unfolding solved last_index
    is_solution {l} {f} x y =
        let same : corrected F (point_of code.xs code.ys (get_or J i 0)) (get_or us i 0) l f ≡ (step F (at i) (get_or us i 0) state).word
        = ap (λ P. corrected F P (get_or us i 0) l f) (chosen p i (rw d (index_lt p us s h e inside)))
        ∙ ap₂ (corrected F (at i) (get_or us i 0)) (x ∙ ap (λ ps. (after F ps us c).low) (points_same p)) (y ∙ ap (λ ps. (after F ps us c).word) (points_same p))
        ∙ sym (step_word F (at i) (get_or us i 0) state (rw d not_zero)) in
        ap (padded code.k) same ∙ ap (λ j. padded code.k (step F (at j) (get_or us j 0) state).word) (d ∙ ap (λ b. cond b code.k c) e)

    pub solves : {l u f g : List ℕ} {n : Lengths} {a v : ℕ} → Filled l u f n (after F (pts p) us c) → a ≡ get_or J i 0 → v ≡ get_or us i 0
        → Holds g code.k (padded code.k (corrected F (point_of code.xs code.ys a) v (take n.pair.low (cond n.pair.turned u l)) (take n.word f)))
        → Solving code J (HoldsFunction code J us g) true
    solves {l} {u} {f} {n = n} q x y w =
        let same : ℕ → ℕ → List ℕ = λ a v. padded code.k (corrected F (point_of code.xs code.ys a) v (take n.pair.low (cond n.pair.turned u l)) (take n.word f)) in
        record { free = sym (is_free p us s h e inside); holds = λ t. holds_as w (ap₂ same x y ∙ is_solution q.pair.low.first q.word.first) }

    -- the same by values, at the points with those at the places first
    module _ {px py : List ℕ} (ax : Arranged code.xs J (length J) px) (ay : Arranged code.ys J (length J) py) where
      abbrev first : State
      first = after F (pts p) us c

      abbrev solved_by : List ℕ
      solved_by = corrected F (point (get_or px i 0) (get_or py i 0)) (get_or us i 0) first.low first.word

      last_in : i < length J
      last_in = rw d (index_lt p us s h e inside)

      takes : (j : ℕ) → j < c → get_or us j 0 ≡ value_at code.field px py solved_by j
      takes j l =
          let a = steps.after_holds (laws code (accepted p)) (on_curve_lem p) (symbols_true code us s) c (omega (arith, length-map J (point_of code.xs code.ys))) in
          let here = point_at_lem code.xs code.ys J j (omega arith) ∙ sym (point_same p ax ay j (omega arith)) in
          sym (a.takes j l) ∙ sym (unchanged (laws code (accepted p)) (point (get_or px i 0) (get_or py i 0)) (get_or (pts p) j (point 0 0)) (get_or us i 0) first.low first.word (a.zero_low j l)) ∙ ap (evaluate F solved_by) here

      pub solves_shown : (l u : List ℕ) {f g w : List ℕ} (n : Sizes) {v : ℕ} → length us ≡ length J → ShownIn code.field px py c l u n (after F (points_in px py) us c)
          → Shows code.field px py c (after F (points_in px py) us c).word f → v ≡ get_or us i 0
          → g ≡ add_scaled F (missing code.field i v (cond n.turned u l) f) (cond n.turned u l) f → w ≡ take c us ++ drop c g
          → Solving code J (Shows code.field px py 0 (solution code J us) w) true
      solves_shown l u {f} {g} {w} n {v} same-many q₀ f₀ y x o =
          let L = cond n.turned u l in
          let t = missing code.field i v L f in
          let states = state_same p ax ay us c (omega arith) in
          let q = rw states at q₀ in
          let fs = rw states at f₀ in
          let same : t ≡ missing code.field i (get_or us i 0) L f = ap (λ v. missing code.field i v L f) y in
          let here : i < length px = omega (arith, last_in, few p, ax.size) in
          let past : c ≤ i = rw d (index_least code.k z) in
          let gained = swept_add code.field t c L f (q.low_values.size ∙ sym fs.size) in
          let shown = corrects (accepted p).field px py first.low first.word (get_or us i 0) past (omega arith) here t same q.low_values fs gained in
          let whole = headed us c (omega arith) (omega (arith, few p, ax.size)) takes shown in
          let solves = ap (λ P. padded code.k (corrected F P (get_or us i 0) first.low first.word)) (point_same p ax ay i last_in) ∙ is_solution refl refl in
          record { free = sym (is_free p us s h e inside); holds = λ _. rw (← solves, o, x) (shown_padded code (accepted p) whole) }

-- values that were put back are the word
pub restores : {code : Code} {J : List ℕ} (us : List ℕ) {px py w v : List ℕ} {r : Bool} → Placed code J → Arranged code.xs J (length J) px → Arranged code.ys J (length J) py
    → Solving code J (Shows code.field px py 0 (solution code J us) w) r → r ≡ true → Arranged v J (length J) w → Solving code J (v ≡ solved_word code J us) true
restores {code} us p ax ay s t back = record { free = sym t ∙ s.free; holds = λ _. shown_values code (accepted p) (restored p ax ay (s.holds t) back) }
