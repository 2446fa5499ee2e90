-- Y² + t·Y = v, where t is not 0: Y is t·z with z² + z = v/t², and with z so does z + 1. So a table of such z finds both Y over an X, or that there is none.
use Prim.Native.Nat.{ℕ, ◌+◌, ◌<◌}
use mathlib.Core.Bool.{Bool, true, false}
use mathlib.Core.Path.{◌≡◌, sym, ap, ◌∙◌}
use mathlib.Core.List.{List, [], ◌∷◌, ◌++◌}
use native.Mathlib.Decide.{ℕ_discrete, dec_lt}
use native.Mathlib.Omega.{arith}
use borrow.Author.Tests.{eq-eqb, ne_eqb, lt-ltb, le-ltb}
use lib.ListN.{get_or, set, replicate, length-replicate, length-set}
use lib.Seq.{get_or-set_same, get_or-set_other}
use Rattle.basics.specs.Lists.{filter, table}
use Rattle.basics.proofs.Lists.{filter_skip, get_or_zeros}
use Rattle.basics.proofs.Loops.{filter_table_more}
use Rattle.field.specs.Sum.{◌⊕◌}
use Rattle.field.specs.Field.{Arithmetic, Field}
use Rattle.field.specs.Galois.{IsField, size, product, inverse, galois}
use Rattle.field.proofs.Sum.{⊕_assoc, ⊕_eq, ⊕_self, ⊕_zero, ⊕_cancel}
use Rattle.field.proofs.Laws.{ring, mul_one, no_zero_div, zero_·}
use Rattle.field.proofs.Galois.{galois_field}
use Rattle.elliptic.specs.declared.Curve.{Curve}
use Rattle.elliptic.specs.Curve.{point, right, coefficients_below}
use Rattle.point_count.proofs.Singular.{g3_lt, right_lt}
use Rattle.curve.specs.Roots.{square_plus, Inverts, lesser, points_over, Found, AllFound}
use Rattle.curve.proofs.Equation.{solution, column_as}

-- ---- the table, whatever function it inverts

module _ (f : ℕ → ℕ) where
  pub inverts_none : Inverts f 0 (replicate 256 0)
  inverts_none = record {
    bytes = length-replicate {A = ℕ} 256 0;
    back = λ c n. absurd (n (get_or_zeros [] 256 c));
    met = λ z h n e. omega arith;
  }

-- ---- what passes a test among f 0, f 1, ..

module _ {A : Type 0} (p : A → Bool) (f : ℕ → A) where
  -- two alone pass
  filter_two : (n a b : ℕ) → a < b → b < n → p (f a) ≡ true → p (f b) ≡ true → ((i : ℕ) → i < n → (i ≡ a → ⊥) → (i ≡ b → ⊥) → p (f i) ≡ false) → filter p (table f n) ≡ f a ∷ f b ∷ []
  filter_two n a b h k ea eb no_other =
      let first = filter_skip p f 0 a (omega arith) (λ i l m. no_other i (omega arith) (λ e. omega arith) (λ e. omega arith)) in
      let between = filter_skip p f (a + 1) b (omega arith) (λ i l m. no_other i (omega arith) (λ e. omega arith) (λ e. omega arith)) in
      let last = filter_skip p f (b + 1) n (omega arith) (λ i l m. no_other i m (λ e. omega arith) (λ e. omega arith)) in
      last ∙ filter_table_more p f b eb ∙ ap (λ l. l ++ (f b ∷ [])) (between ∙ filter_table_more p f a ea ∙ ap (λ l. l ++ (f a ∷ [])) first)

-- ---- the solutions

module _ {F : Arithmetic} (K : Field F) where
  infixl 70 ◌·◌
  open F use {q, ◌·◌, inv}
  open K use {one_lt, mul_lt, one_mul, mul_inv}

  factored : (t z : ℕ) → t · z · (t · z ⊕ t · 1) ≡ t · t · (z · (z ⊕ 1))
  factored t z = simp ring

  scaled : (t w v : ℕ) → t · t · (v · w · w) ≡ t · w · (t · w · v)
  scaled t w v = simp ring

  divided : (t w y : ℕ) → y · w · (y · w ⊕ t · w) ≡ y · (y ⊕ t) · w · w
  divided t w y = simp ring

  compared : (t y z : ℕ) → (y ⊕ z) · (y ⊕ (z ⊕ t)) ≡ y · (y ⊕ t) ⊕ z · (z ⊕ t)
  compared t y z = simp ring

  module _ (t v : ℕ) (ht : t < q) (nt : t ≡ 0 → ⊥) (hv : v < q) where
    from_root : (z : ℕ) → z · (z ⊕ 1) ≡ v · inv t · inv t → t · z · (t · z ⊕ t) ≡ v
    from_root z e =
        ap (λ s. t · z · (t · z ⊕ s)) (sym (mul_one K t ht)) ∙ factored t z ∙ ap (λ s. t · t · s) e ∙ scaled t (inv t) v
        ∙ rw (mul_inv t ht nt, one_mul v hv, one_mul v hv)

    to_root : (y : ℕ) → y · (y ⊕ t) ≡ v → y · inv t · (y · inv t ⊕ 1) ≡ v · inv t · inv t
    to_root y e = ap (λ s. y · inv t · (y · inv t ⊕ s)) (sym (mul_inv t ht nt)) ∙ divided t (inv t) y ∙ ap (λ s. s · inv t · inv t) e

  -- there are two at most
  no_third : (t y z : ℕ) → t < q → y < q → z < q → y · (y ⊕ t) ≡ z · (z ⊕ t) → (y ≡ z → ⊥) → (y ≡ z ⊕ t → ⊥) → ⊥
  no_third t y z ht hy hz e n o =
      let zero : (y ⊕ z) · (y ⊕ (z ⊕ t)) ≡ 0 = compared t y z ∙ ap (λ s. s ⊕ z · (z ⊕ t)) e ∙ ⊕_self (z · (z ⊕ t)) in
      o (⊕_eq (no_zero_div K (y ⊕ z) (y ⊕ (z ⊕ t)) (K.add_lt y z hy hz) (K.add_lt y (z ⊕ t) hy (K.add_lt z t hz ht)) (λ s. n (⊕_eq s)) zero))

  -- 0 and 1 have the same z² + z
  entered : {r : List ℕ} → Inverts (λ z. z · (z ⊕ 1)) q r → (z : ℕ) → z < q → get_or r (z · (z ⊕ 1)) 0 ≡ 0 → ⊥
  entered {r} i z h = by (ℕ_discrete z 0)
    where
      by : Dec (z ≡ 0) → get_or r (z · (z ⊕ 1)) 0 ≡ 0 → ⊥
      by (yes e) o =
          let same : z · (z ⊕ 1) ≡ 1 · (1 ⊕ 1) = ap (λ s. s · (s ⊕ 1)) e ∙ zero_· K (0 ⊕ 1) ∙ sym (ap (λ s. 1 · s) (⊕_self 1) ∙ K.mul_zero 1) in
          i.met 1 one_lt (λ e. omega arith) (ap (λ s. get_or r s 0) (sym same) ∙ o)
      by (no n) o = i.met z h n o

-- ---- the points over an X

module _ {m : ℕ} (h : IsField m) (C : Curve) (below : coefficients_below (size m) C ≡ true) (x : ℕ) {r : List ℕ} (i : Inverts (square_plus m) (size m) r) {t v z y : ℕ}
    (is-t : t ≡ product m C.g1 x ⊕ C.g3) (is_v : v ≡ right (galois m) C x) (is-z : z ≡ get_or r (product m (product m v (inverse m t)) (inverse m t)) 0) (is_y : y ≡ product m t z) where
  K : Field (galois m)
  K = galois_field h

  t_lt : t < size m
  t_lt = rw is-t (K.add_lt _ _ (K.mul_lt C.g1 x) (g3_lt K C below))

  v_lt : v < size m
  v_lt = rw is_v (right_lt K C below x)

  y_lt : y < size m
  y_lt = rw is_y (K.mul_lt t z)

  -- the points are the solutions
  over : points_over m C x ≡ filter (solution m t v) (table (point x) (size m))
  over = rw (is-t, is_v) (sym (column_as h C x (size m)))

  none : (t ≡ 0 → ⊥) → z ≡ 0 → points_over m C x ≡ []
  none nt e = over ∙ filter_skip (solution m t v) (point x) 0 (size m) (omega arith) (λ y l k. ne_eqb _ _ (unsolved y))
    where
      unsolved : (y : ℕ) → product m y (y ⊕ t) ≡ v → ⊥
      unsolved y s = entered K i (product m y (inverse m t)) (K.mul_lt _ _) (ap (λ c. get_or r c 0) (to_root K t v t_lt nt v_lt y s) ∙ sym is-z ∙ e)

  module _ (nt : t ≡ 0 → ⊥) (n : z ≡ 0 → ⊥) where
    solves : product m y (y ⊕ t) ≡ v
    solves = rw is_y (from_root K t v t_lt nt v_lt z (rw is-z (i.back _ (λ e. n (is-z ∙ e))).1))

    -- the opposite's Y
    o : ℕ
    o = y ⊕ t

    o_lt : o < size m
    unfolding o
    o_lt = K.add_lt y t y_lt t_lt

    back : o ⊕ t ≡ y
    unfolding o
    back = rw (⊕_assoc y t t, ⊕_self t) (⊕_zero y)

    o_solves : product m o (o ⊕ t) ≡ v
    unfolding o
    o_solves = rw back (K.mul_comm (y ⊕ t) y ∙ solves)

    apart : y ≡ o → ⊥
    unfolding o
    apart e = nt (sym (⊕_cancel y t) ∙ ap (λ s. y ⊕ s) (sym e) ∙ ⊕_self y)

    no_other : (w : ℕ) → w < size m → (w ≡ y → ⊥) → (w ≡ o → ⊥) → solution m t v (point x w) ≡ false
    unfolding o
    no_other w l a b = ne_eqb _ _ (λ s. no_third K t w y t_lt l y_lt (s ∙ sym solves) a b)

    two : points_over m C x ≡ point x (lesser y (y ⊕ t)) ∷ point x (lesser y (y ⊕ t) ⊕ t) ∷ []
    unfolding o lesser
    two =
        over ∙ elim (dec_lt y o) [
          | yes l ↦ rw (lt-ltb y o l) (filter_two (solution m t v) (point x) (size m) y o l o_lt (eq-eqb _ _ solves) (eq-eqb _ _ o_solves) no_other)
          | no l ↦ (let g : o < y = omega (arith, apart) in
              rw (le-ltb y o (omega arith), back) (filter_two (solution m t v) (point x) (size m) o y g y_lt (eq-eqb _ _ o_solves) (eq-eqb _ _ solves) (λ w h a b. no_other w h b a)))
        ]

  -- y is 0 only where z is
  no_root : (t ≡ 0 → ⊥) → y ≡ 0 → z ≡ 0
  no_root nt e = by (ℕ_discrete z 0)
    where
      by : Dec (z ≡ 0) → z ≡ 0
      by (yes d) = d
      by (no n) = no_zero_div K t z t_lt (rw is-z (i.back _ (λ d. n (is-z ∙ d))).0) nt (sym is_y ∙ e)

  pub found : Found m C x y
  found = record {
    no_point = λ {t = s} is-s ns e. let nt : t ≡ 0 → ⊥ = λ d. ns (is-s ∙ sym is-t ∙ d) in none nt (no_root nt e);
    two_points = λ {t = s} is-s ns e. rw (is-s ∙ sym is-t) (two (λ d. ns (is-s ∙ sym is-t ∙ d)) (λ d. e (is_y ∙ ap (product m t) d ∙ K.mul_zero t)));
  }

-- ---- the points over all X

module _ (m : ℕ) (C : Curve) where
  pub found_more : {n y : ℕ} {ys : List ℕ} → n < 256 → AllFound m C n ys → Found m C n y → AllFound m C (n + 1) (set ys n y)
  found_more {n} {y} {ys} h a f = record { bytes = length-set ys n y ∙ a.bytes; at = λ x k. at x k (ℕ_discrete x n) }
    where
      at : (x : ℕ) → x < n + 1 → Dec (x ≡ n) → Found m C x (get_or (set ys n y) x 0)
      at x k (yes e) = rw (e, get_or-set_same ys n y 0 (rw a.bytes h)) f
      at x k (no d) = rw (get_or-set_other ys n x y 0 d) (a.at x (omega (arith, d)))
