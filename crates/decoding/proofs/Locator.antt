-- What a pair that meets all symbols says, where a codeword lies within t: E is zero at the wrong places, and not zero at more than k places.
use Prim.Native.Nat.{ℕ, zero, suc, ◌<◌, ◌≤◌}
use mathlib.Core.Path.{◌≡◌, refl, sym, ◌∙◌, ap, ap₂, subst}
use mathlib.Core.Bool.{not}
use mathlib.Core.Logic.{◌⊎◌, inl, inr}
use mathlib.Core.List.{List}
use native.Mathlib.Omega.{arith}
use lib.Dec.{eqb}
use lib.ListN.{length, get_or}
use borrow.Author.Tests.{eqb-true}
use Rattle.basics.specs.Lists.{filter}
use Rattle.field.specs.Sum.{◌⊕◌}
use Rattle.field.proofs.Sum.{⊕_self, ⊕_eq}
use Rattle.field.specs.Field.{Arithmetic, Field}
use Rattle.field.proofs.Laws.{ring, ·_zero, no_zero_div}
use Rattle.elliptic.specs.declared.Curve.{Curve}
use Rattle.elliptic.specs.declared.Point.{Point}
use Rattle.elliptic.specs.Curve.{point}
use Rattle.elliptic.specs.Functions.{weight}
use Rattle.elliptic.specs.Pair.{evaluate, add_scaled}
use Rattle.elliptic.proofs.Points.{Points, All, All.nil, All.cons, all_of}
use Rattle.elliptic.proofs.Function.{Under, Zero, under_add, evaluate_add, evaluate_lt}
use Rattle.elliptic.proofs.Padding.{Zeros, Trimmed, trim}
use Rattle.elliptic.proofs.Kernel.{few, through}
use Rattle.elliptic.proofs.Zeros.{zeros}
use Rattle.elliptic.proofs.Pair.{place as point_of}
use Rattle.codewords.specs.Code.{Code, arithmetic, q, n, points}
use Rattle.codewords.specs.Codewords.{place, point_at, word}
use Rattle.codewords.proofs.Accepted.{Accepted, laws}
use Rattle.codewords.proofs.Places.{all_at, n_points, length_points, different_points}
use Rattle.codewords.proofs.Words.{Function}
use Rattle.decoding.specs.Near.{distance, radius}
use Rattle.decoding.specs.Rows.{Row, defect, all_places}
use Rattle.decoding.proofs.Weighted.{coef, evaluate_none}
use Rattle.decoding.proofs.Keys.{at, View, View.num, View.none, View.den, view, at_num, at_none, at_den}
use Rattle.decoding.proofs.Elements.{Element}
use Rattle.decoding.proofs.Product.{times, evaluate_times, under_times, weight_mono}
use Rattle.decoding.proofs.Distance.{both_counts}
use Rattle.decoding.proofs.Spots.{count_places, tested_places, point_index, all_tested, radius_fits, on_curve_lem, agrees_at, agree_index, distance_places}

-- a function that is not 0 has no more zeros than its weight
zeros_most : {F : Arithmetic} (K : Field F) {C : Curve} {J : List Point} → Points F C J → (m : ℕ) {f : List ℕ} → Under F (suc m) f → (Zeros f → ⊥) → All (Zero F f) J → length J ≤ weight m
zeros_most {F} K {C} {J} p m {f} u n z = by (trim K u)
  where
    by : Zeros f ⊎ Trimmed F (suc m) f → length J ≤ weight m
    by (inl e) = absurd (n e)
    by (inr t) = omega (arith, zeros K p (through K p t z), weight_mono t.n m (omega (arith, t.fits)))

zeros_get : {f : List ℕ} → Zeros f → (i : ℕ) → get_or f i 0 ≡ 0
zeros_get nil i = refl
zeros_get (cons e z) zero = e
zeros_get (cons e z) (suc i) = zeros_get z i

zeros_coef : {f : List ℕ} → Zeros f → (w : ℕ) → coef f w ≡ 0
unfolding coef
zeros_coef z zero = zeros_get z 0
zeros_coef z (suc zero) = refl
zeros_coef z (suc (suc w)) = zeros_get z (suc w)

-- a row of zeros has nothing at any key
zeros_at : (k : ℕ) (r : Row) → Zeros r.num → Zeros r.den → (κ : ℕ) → at k r κ ≡ 0
zeros_at k r y z κ = by (view k κ)
  where
    by : View k κ → at k r κ ≡ 0
    by (num w e) = ap (at k r) e ∙ at_num k r w ∙ zeros_coef y w
    by (none w l e) = ap (at k r) e ∙ at_none k r w l
    by (den w e) = ap (at k r) e ∙ at_den k r w ∙ zeros_coef z w

zeros_evaluate : {F : Arithmetic} (K : Field F) {f : List ℕ} → Zeros f → (P : Point) → Zero F f P
zeros_evaluate K {f} z P = evaluate_none K f P (zeros_coef z)

module _ {F : Arithmetic} (K : Field F) where
  infixl 70 ◌·◌
  open F use {q, ◌·◌}
  open K use {add_lt, mul_lt, one_mul}

  own : (b v : ℕ) → b · v ⊕ 1 · (b · v) ≡ 0
  own b v = ap (λ c. b · v ⊕ c) (one_mul (b · v) (mul_lt b v)) ∙ ⊕_self _

  -- a factor that is not 0 falls away
  apart : (x y v : ℕ) → x < q → y < q → v < q → (v ≡ 0 → ⊥) → x · v ⊕ 1 · (y · v) ≡ 0 → y ≡ x
  apart x y v hx hy hv n e =
      let out : v · (y ⊕ x) ≡ x · v ⊕ y · v = simp ring in
      ⊕_eq (no_zero_div K v (y ⊕ x) hv (add_lt _ _ hy hx) n (out ∙ ap (λ c. x · v ⊕ c) (sym (one_mul (y · v) (mul_lt y v))) ∙ e))

module _ (code : Code) (a : Accepted code) (r : List ℕ) (size : length r ≡ n code) {f : List ℕ} (u : Function code a f)
    (close : distance (word code f) r ≤ radius code) {R : Row} (e : Element (arithmetic code) code.k (radius code) (points code) r (length (points code)) R) where
  infixl 70 ◌·◌
  abbrev F : Arithmetic
  F = arithmetic code

  abbrev ◌·◌ : ℕ → ℕ → ℕ
  x · y = F.◌·◌ x y

  abbrev K : Field F
  K = laws code a

  abbrev P : ℕ → Point
  P j = point_of (points code) j

  abbrev N : List ℕ
  N = R.num

  abbrev E : List ℕ
  E = R.den

  -- N = r·E at all places
  met : (j : ℕ) → j < n code → evaluate F N (P j) ≡ get_or r j 0 · evaluate F E (P j)
  unfolding defect
  met j h = ⊕_eq (e.member.meets j (omega (arith, n_points code a)))

  -- E is not 0: N would have more zeros than it can have
  some : Zeros E → ⊥
  some z =
      e.leads (zeros_at code.k R (few K a.different (omega (arith, n_points code a, radius_fits code a)) N e.member.shape.num.under
      (all_of (point 0 0) (points code) (λ j h. met j (omega (arith, n_points code a)) ∙ ap (λ v. get_or r j 0 · v) (zeros_evaluate K z (P j)) ∙ ·_zero K _)))
      z R.key)

  -- N + f·E is 0: it is zero where the codeword has the symbol
  abbrev right : List ℕ
  right = filter (agrees_at code a r size f) (all_places (n code))

  abbrev D : List ℕ
  D = add_scaled F 1 (times F code.curve E f) N

  value_D : (j : ℕ) → j < n code → evaluate F D (P j) ≡ evaluate F N (P j) ⊕ 1 · (evaluate F f (P j) · evaluate F E (P j))
  value_D j h = evaluate_add K 1 _ N (P j) ∙ ap (λ v. evaluate F N (P j) ⊕ 1 · v) (evaluate_times K code.curve E (P j) (on_curve_lem code a j h) f)

  zeros_D : Zeros D
  zeros_D =
      few K (different_points code a (tested_places code (agrees_at code a r size f)))
      (omega (
        arith,
        length_points code right,
        both_counts (agrees_at code a r size f) (all_places (n code)),
        count_places code,
        distance_places code a r size f,
        radius_fits code a,
      ))
      D (under_add K 1 (under_times K code.curve E (radius code) e.member.shape.den.under u.under) e.member.shape.num.under)
      (all_tested code (Zero F D) (agrees_at code a r size f)
      (λ j h s.
      value_D j h ∙ ap₂ (λ x y. x ⊕ 1 · (y · evaluate F E (P j))) (met j h) (agree_index code a r size u j h s) ∙ own K _ _))

  -- where E is not zero, the codeword has the symbol
  pub kept_right : All (λ v. v < q code) r → (j : ℕ) → j < n code → (Zero F E (P j) → ⊥) → evaluate F f (P j) ≡ get_or r j 0
  kept_right small j h nz =
      apart K (get_or r j 0) (evaluate F f (P j)) (evaluate F E (P j)) (all_at 0 small j (rw size h)) (evaluate_lt K u.under (P j))
      (evaluate_lt K e.member.shape.den.under (P j)) nz
      (ap (λ x. x ⊕ 1 · (evaluate F f (P j) · evaluate F E (P j))) (sym (met j h)) ∙ sym (value_D j h) ∙ zeros_evaluate K zeros_D (P j))

  -- and it is not zero at more than k places
  pub enough : code.k < length (filter (λ p. not (eqb (evaluate F E (point_at code (place p))) 0)) (all_places (n code)))
  enough =
      omega (
        arith,
        both_counts (λ p. eqb (evaluate F E (point_at code (place p))) 0) (all_places (n code)),
        count_places code,
        zeros_most K (different_points code a (tested_places code (λ p. eqb (evaluate F E (point_at code (place p))) 0))) (radius code) e.member.shape.den.under some
            (all_tested code (Zero F E) (λ p. eqb (evaluate F E (point_at code (place p))) 0)
            (λ j h s. subst (λ Q. Zero F E Q) (point_index code j) (eqb-true _ 0 s))),
        length_points code (filter (λ p. eqb (evaluate F E (point_at code (place p))) 0) (all_places (n code))),
        radius_fits code a,
      )
