-- A row's factors stand for the word of its unit message: both lose the same multiple of the raised function at each point. The words of all rows are 1 together.
use Prim.Native.Nat.{ℕ, zero, suc, ◌+◌, ◌<◌, ◌≤◌}
use mathlib.Core.Path.{◌≡◌, refl, sym, ◌∙◌, ap, ap₂}
use mathlib.Core.Bool.{Bool, true, false, cond}
use mathlib.Core.List.{List, []}
use native.Mathlib.Decide.{ℕ_discrete}
use native.Mathlib.Numerals.{add-one}
use native.Mathlib.Omega.{arith}
use borrow.Author.Tests.{eq-eqb, ne_eqb}
use lib.Dec.{eqb}
use lib.ListN.{length, get_or}
use Rattle.basics.proofs.Lists.{get_or_table}
use Rattle.field.specs.Sum.{◌⊕◌}
use Rattle.field.specs.Field.{Arithmetic, Field}
use Rattle.field.specs.Galois.{IsField, galois, product, inverse, size}
use Rattle.field.proofs.Laws.{ring}
use Rattle.field.proofs.Galois.{galois_field}
use Rattle.field.proofs.Sum.{zero_⊕}
use Rattle.elliptic.specs.declared.Point.{Point}
use Rattle.elliptic.specs.Curve.{point}
use Rattle.elliptic.specs.Pair.{State, evaluate, corrected, kept, step, after}
use Rattle.elliptic.proofs.Function.{evaluate_add}
use Rattle.engine.specs.declared.pair.Sizes.{Sizes}
use Rattle.engine.specs.Places.{value_at}
use Rattle.engine.proofs.States.{SamePair, step_zero, after_pair}
use Rattle.engine.proofs.Runs.{step_word}
use Rattle.values.specs.Values.{Shows, Shown, ShownIn, points_in}
use Rattle.values.proofs.Runs.{start_low}
use Rattle.generator.specs.Rows.{Row, RowIn, RowsStep, Ready, Able, raised_of, unit_symbols, pair_after, row_value, Rows, total, gained}
use Rattle.generator.proofs.Sums.{total_as, total_sum, total_times}

-- the same function in other words
module _ {F : Arithmetic} where
  infixl 70 ◌·◌
  open F use {◌·◌}

  row_as : {xs l u : List ℕ} {d x a b : ℕ} {f g : ℕ → ℕ} → ((t : ℕ) → d ≤ t → t < length xs → f t ≡ g t) → Row F xs l u d x a b f → Row F xs l u d x a b g
  row_as {xs} {x = x} e w = record { at = λ t h m. ap (λ v. (get_or xs t 0 ⊕ x) · v) (sym (e t h m)) ∙ w.at t h m; first_lt = w.first_lt; second_lt = w.second_lt }

module _ {F : Arithmetic} (K : Field F) where
  infixl 70 ◌·◌
  open F use {q, ◌·◌}

  nothing_before : (a c : ℕ) → 0 ⊕ 0 · a ⊕ c ≡ c
  nothing_before a c = simp ring

  one_stays : (c : ℕ) → c < q → 1 ⊕ 1 · c ⊕ c ≡ 1
  one_stays c h = ap (λ y. 1 ⊕ y ⊕ c) (K.one_mul c h) ∙ cancel 1 c
    where
      cancel : (a c : ℕ) → a ⊕ c ⊕ c ≡ a
      cancel a c = simp ring

-- ---- one more point, by values

module _ {m : ℕ} (k : IsField m) (xs ys us : List ℕ) (i : ℕ) (inside : i < length xs) {L U : List ℕ} {low high : ℕ}
    (s : Shown m xs ys i L U low high (after (galois m) (points_in xs ys) us i)) where
  abbrev state : State
  state = after (galois m) (points_in xs ys) us i

  abbrev here : Point
  here = point (get_or xs i 0) (get_or ys i 0)

  gain : (g w : List ℕ) (G : List ℕ) → Shows m xs ys i g G → (t : ℕ) → i ≤ t → t < length xs
      → value_at m xs ys (corrected (galois m) here (get_or us i 0) g w) t
      ≡ value_at m xs ys w t ⊕ product m (product m (get_or us i 0 ⊕ value_at m xs ys w i) (inverse m (get_or G i 0))) (get_or G t 0)
  unfolding corrected
  gain g w G p t e h =
      evaluate_add (galois_field k) _ g w _
      ∙ ap₂ (λ y z. value_at m xs ys w t ⊕ product m (product m (get_or us i 0 ⊕ value_at m xs ys w i) (inverse m y)) z) (sym (p.at i (omega arith) inside)) (sym (p.at t e h))

  one_more : step (galois m) here (get_or us i 0) state ≡ after (galois m) (points_in xs ys) us (i + 1)
  unfolding after
  one_more = rw (add-one, get_or_table (λ i. point (get_or xs i 0) (get_or ys i 0)) (length xs) i (point 0 0) inside)

  word_next : (t : ℕ) → i ≤ t → t < length xs
      → value_at m xs ys (after (galois m) (points_in xs ys) us (i + 1)).word t
      ≡ value_at m xs ys state.word t ⊕ product m (product m (get_or us i 0 ⊕ value_at m xs ys state.word i) (inverse m (get_or (raised_of i L U) i 0))) (get_or (raised_of i L U) t 0)
  unfolding kept
  word_next t e h = ap (λ y. value_at m xs ys y.word t) (sym one_more) ∙ by (ℕ_discrete (get_or L i 0) 0)
    where
      at_low : get_or L i 0 ≡ evaluate (galois m) state.low here
      at_low = s.low_values.at i (omega arith) inside

      by : Dec (get_or L i 0 ≡ 0) → value_at m xs ys (step (galois m) here (get_or us i 0) state).word t
          ≡ value_at m xs ys state.word t ⊕ product m (product m (get_or us i 0 ⊕ value_at m xs ys state.word i) (inverse m (get_or (raised_of i L U) i 0))) (get_or (raised_of i L U) t 0)
      by (yes z) =
          rw (eq-eqb (get_or L i 0) 0 z)
          (ap (λ y. value_at m xs ys y.word t) (sym (step_zero (galois m) here (get_or us i 0) state at_low z)) ∙ gain state.high state.word U s.high_values t e h)
      by (no z) =
          rw (ne_eqb (get_or L i 0) 0 z)
          (ap (λ w. value_at m xs ys w t) (step_word (galois m) here (get_or us i 0) state (λ e. z (at_low ∙ e))) ∙ gain state.low state.word L s.low_values t e h)

-- ---- before its own point a row's word is zero

module _ {F : Arithmetic} (K : Field F) (points : List Point) (us : List ℕ) where
  infixl 70 ◌·◌
  open F use {q, ◌·◌, inv}
  open K use {one_mul}

  nothing : (y z : ℕ) → 0 ⊕ (0 ⊕ 0) · y · z ≡ 0
  nothing y z = simp ring

  unchanged : (P Q : Point) (g w : List ℕ) → ((R : Point) → evaluate F w R ≡ 0) → evaluate F (corrected F P 0 g w) Q ≡ 0
  unfolding corrected
  unchanged P Q g w z =
      evaluate_add K _ g w Q ∙ ap₂ (λ a b. a ⊕ (0 ⊕ b) · inv (evaluate F g P) · evaluate F g Q) (z Q) (z P) ∙ nothing _ _

  first_value : (y z : ℕ) → y < q → y · z ≡ 0 ⊕ (1 ⊕ 0) · y · z
  first_value y z h = ap (λ v. v · z) (sym (one_mul y h)) ∙ spread y z
    where
      spread : (y z : ℕ) → 1 · y · z ≡ 0 ⊕ (1 ⊕ 0) · y · z
      spread y z = simp ring

  zero_step : (P : Point) (s : State) → ((R : Point) → evaluate F s.word R ≡ 0) → (Q : Point) → evaluate F (step F P 0 s).word Q ≡ 0
  unfolding kept
  zero_step P s before Q = by (ℕ_discrete (evaluate F s.low P) 0)
    where
      by : Dec (evaluate F s.low P ≡ 0) → evaluate F (step F P 0 s).word Q ≡ 0
      by (yes z) = ap (λ y. evaluate F y.word Q) (sym (step_zero F P 0 s refl z)) ∙ unchanged P Q s.high s.word before
      by (no z) = ap (λ w. evaluate F w Q) (step_word F P 0 s z) ∙ unchanged P Q s.low s.word before

  zero_word : (i : ℕ) → ((t : ℕ) → t < i → get_or us t 0 ≡ 0) → (Q : Point) → evaluate F (after F points us i).word Q ≡ 0
  unfolding after evaluate
  zero_word zero h Q = refl
  zero_word (suc i) h Q =
      ap (λ v. evaluate F (step F (get_or points i (point 0 0)) v (after F points us i)).word Q) (h i (omega arith))
      ∙ zero_step (get_or points i (point 0 0)) (after F points us i) (zero_word i (λ t l. h t (omega arith))) Q

-- ---- all rows

shown_as : {m d low high : ℕ} {xs ys L U : List ℕ} {s t : State} → SamePair s t → Shown m xs ys d L U low high s → Shown m xs ys d L U low high t
shown_as {m} {d} {xs = xs} {ys} {L} {U} e p =
    record {
      low_values = rw e.low at p.low_values;
      high_values = rw e.high at p.high_values;
      low_size = p.low_size ∙ ap length e.low;
      high_size = p.high_size ∙ ap length e.high;
    }

unit_own : (count j : ℕ) → j < count → get_or (unit_symbols count j) j 0 ≡ 1
unit_own count j h = get_or_table (λ t. cond (eqb t j) 1 0) count j 0 h ∙ rw (eq-eqb j j refl)

unit_other : (count j t : ℕ) → t < count → (t ≡ j → ⊥) → get_or (unit_symbols count j) t 0 ≡ 0
unit_other count j t h n = get_or_table (λ t. cond (eqb t j) 1 0) count t 0 h ∙ rw (ne_eqb t j n)

-- either array holds values of L or of U
either_lt : {q : ℕ} (t : Bool) (l u : List ℕ) (c : ℕ) → get_or (cond t u l) c 0 < q → get_or (cond t l u) c 0 < q → (get_or l c 0 < q) × (get_or u c 0 < q)
either_lt true l u c h g = (g, h)
either_lt false l u c h g = (h, g)

module _ {m : ℕ} (k : IsField m) (xs ys : List ℕ) (count i : ℕ) (more : i < count) (inside : i < length xs) (able : Able m xs ys count) (l u : List ℕ) (n : Sizes)
    (s : ShownIn m xs ys i l u n (pair_after m xs ys i)) where
  abbrev low_list : List ℕ
  low_list = cond n.turned u l

  abbrev high_list : List ℕ
  high_list = cond n.turned l u

  abbrev raised : List ℕ
  raised = raised_of i low_list high_list

  abbrev value : ℕ → ℕ → ℕ
  value j t = row_value m xs ys count j i t

  low_at : get_or low_list i 0 ≡ value_at m xs ys (pair_after m xs ys i).low i
  low_at = s.low_values.at i (omega arith) inside

  high_at : get_or high_list i 0 ≡ value_at m xs ys (pair_after m xs ys i).high i
  high_at = s.high_values.at i (omega arith) inside

  not_zero : get_or raised i 0 ≡ 0 → ⊥
  not_zero = by (ℕ_discrete (get_or low_list i 0) 0)
    where
      by : Dec (get_or low_list i 0 ≡ 0) → get_or raised i 0 ≡ 0 → ⊥
      by (yes z) e = able.some i more (sym low_at ∙ z) (sym high_at ∙ (rw (eq-eqb (get_or low_list i 0) 0 z) at e))
      by (no z) e = z (rw (ne_eqb (get_or low_list i 0) 0 z) at e)

  next : (j t : ℕ) → i ≤ t → t < length xs → row_value m xs ys count j (i + 1) t
      ≡ value j t ⊕ product m (product m (get_or (unit_symbols count j) i 0 ⊕ value j i) (inverse m (get_or raised i 0))) (get_or raised t 0)
  next j t e g = word_next k xs ys (unit_symbols count j) i inside (shown_as (after_pair (galois m) (points_in xs ys) [] (unit_symbols count j) i) s) t e g

  old_next : (j t : ℕ) → (i ≡ j → ⊥) → i ≤ t → t < length xs → gained (galois m) i raised (value j) t ≡ row_value m xs ys count j (i + 1) t
  old_next j t d e g =
      ap (λ v. value j t ⊕ product m (product m v (inverse m (get_or raised i 0))) (get_or raised t 0)) (sym (zero_⊕ _) ∙ ap (λ v. v ⊕ value j i) (sym (unit_other count j i more d))) ∙ sym (next j t e g)

  new_next : (t : ℕ) → i ≤ t → t < length xs → product m (inverse m (get_or raised i 0)) (get_or raised t 0) ≡ row_value m xs ys count i (i + 1) t
  new_next t e g =
      first_value (galois_field k) [] [] (inverse m (get_or raised i 0)) (get_or raised t 0) ((galois_field k).inv_lt _)
      ∙ ap₂ (λ v z. z ⊕ product m (product m v (inverse m (get_or raised i 0))) (get_or raised t 0)) (ap₂ (λ v z. v ⊕ z) (sym (unit_own count i more)) (sym (before i))) (sym (before t))
      ∙ sym (next i t e g)
    where
      before : (t : ℕ) → row_value m xs ys count i i t ≡ 0
      before t = zero_word (galois_field k) (points_in xs ys) (unit_symbols count i) i (λ r y. unit_other count i r (omega arith) (λ e. omega arith)) _

  -- the first row is L over its value, which is 1
  first_whole : i ≡ 0 → (t : ℕ) → t < length xs → product m (inverse m (get_or raised i 0)) (get_or raised t 0) ≡ 1
  unfolding after
  first_whole z t g =
      let one_at : (t : ℕ) → t < length xs → get_or low_list t 0 ≡ 1 = λ t g. s.low_values.at t (omega arith) g ∙ ap (λ y. value_at m xs ys (pair_after m xs ys y).low t) z ∙ start_low (galois_field k) _ in
      let low : raised ≡ low_list = rw (ne_eqb (get_or low_list i 0) 0 (λ e. omega (arith, one_at i inside))) in
      ap₂ (λ y z. product m (inverse m y) z) (ap (λ y. get_or y i 0) low ∙ one_at i inside) (ap (λ y. get_or y t 0) low ∙ one_at t g)
      ∙ (galois_field k).mul_comm _ _ ∙ (galois_field k).mul_inv 1 (galois_field k).one_lt (λ e. omega arith)

  pub whole_next : (0 < i → (t : ℕ) → i ≤ t → t < length xs → total (λ j. value j t) i ≡ 1) → (t : ℕ) → i + 1 ≤ t → t < length xs → total (λ j. row_value m xs ys count j (i + 1) t) (i + 1) ≡ 1
  whole_next whole t e g =
      let share = product m (inverse m (get_or raised i 0)) (get_or raised t 0) in
      ap (total (λ j. row_value m xs ys count j (i + 1) t)) (add-one i)
      ∙ ap₂ (λ y z. y ⊕ z) (total_as _ (λ j. value j t ⊕ product m (value j i) share) i (λ j h. sym (old_next j t (λ d. omega arith) (omega arith) g) ∙ ap (λ y. value j t ⊕ y) ((galois_field k).mul_assoc _ _ _))) (sym (new_next t (omega arith) g))
      ∙ ap (λ y. y ⊕ share) (total_sum (λ j. value j t) (λ j. product m (value j i) share) i ∙ ap (λ y. total (λ j. value j t) i ⊕ y) (total_times (galois_field k) (λ j. value j i) share i))
      ∙ by (ℕ_discrete i 0)
    where
      by : Dec (i ≡ 0) → total (λ j. value j t) i ⊕ product m (total (λ j. value j i) i) (product m (inverse m (get_or raised i 0)) (get_or raised t 0)) ⊕ product m (inverse m (get_or raised i 0)) (get_or raised t 0) ≡ 1
      by (yes z) = ap₂ (λ y w. y ⊕ product m w (product m (inverse m (get_or raised i 0)) (get_or raised t 0)) ⊕ product m (inverse m (get_or raised i 0)) (get_or raised t 0)) (ap (total (λ j. value j t)) z) (ap (total (λ j. value j i)) z) ∙ nothing_before (galois_field k) _ _ ∙ first_whole z t g
      by (no z) =
          ap₂ (λ y w. y ⊕ product m w (product m (inverse m (get_or raised i 0)) (get_or raised t 0)) ⊕ product m (inverse m (get_or raised i 0)) (get_or raised t 0)) (whole (omega arith) t (omega arith) g) (whole (omega arith) i (omega arith) inside)
          ∙ one_stays (galois_field k) _ ((galois_field k).mul_lt _ _)

  pub rows_next : {a b l' u' a' b' : List ℕ} → Rows m xs ys count l u a b i → RowsStep m i xs raised l u a b l' u' a' b' → Rows m xs ys count l' u' a' b' (i + 1)
  rows_next {a} {b} {l'} {u'} {a'} {b'} rows w = record { row = λ j g. by j g (ℕ_discrete j i); whole = λ _. whole_next rows.whole }
    where
      bounds : (get_or l i 0 < size m) × (get_or u i 0 < size m)
      bounds = either_lt n.turned l u i (rw low_at (able.low_lt i i more inside)) (rw high_at (able.high_lt i i more inside))

      ready : Ready m i xs raised l u value
      ready =
          record {
            inside = inside;
            point_lt = able.point_lt;
            first_lt = bounds.0;
            second_lt = bounds.1;
            value_lt = λ j h. able.word_lt j i i (omega arith) inside;
            some = not_zero;
            whole = λ h. rows.whole h i (omega arith) inside;
            alone = λ j y h g. able.alone i j y more h g;
          }

      by : (j : ℕ) → j < i + 1 → Dec (j ≡ i) → RowIn m xs l' u' (i + 1) a' b' j (row_value m xs ys count j (i + 1))
      by j g (no d) = row_as (λ t e h. old_next j t (λ z. d (sym z)) (omega arith) h) (w.old value ready rows.row j (omega arith))
      by j g (yes d) = rw d (row_as (λ t e h. new_next t (omega arith) h) w.new)
