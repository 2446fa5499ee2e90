-- Where g1 is not 0, a curve can be singular at one point alone, since the two conditions are linear in X and then in Y. Where g1 is 0, g3 decides.
use Prim.Native.Nat.{ℕ, ◌<◌}
use mathlib.Core.Bool.{Bool, true, false, false≢true}
use mathlib.Core.Path.{◌≡◌, refl, sym, ap, ◌∙◌}
use native.Mathlib.Omega.{arith}
use borrow.Author.Tests.{ltb-true, eqb-true, eqb-false, eq-eqb}
use lib.Dec.{eqb, ltb}
use lib.ListN.{get_or}
use Rattle.basics.proofs.Lists.{all_get, both}
use Rattle.field.specs.Sum.{◌⊕◌}
use Rattle.field.specs.Field.{Arithmetic, Field}
use Rattle.field.proofs.Laws.{root, root_square, pow_lt, inv_cancel, mul_one, ·_comm, ·_left_comm, zero_·}
use Rattle.field.proofs.Sum.{⊕_assoc, ⊕_eq, ⊕_self, ⊕_zero, zero_⊕}
use Rattle.elliptic.specs.declared.Curve.{Curve}
use Rattle.elliptic.specs.Curve.{point, left, right, on_curve, singular_at, singular}
use Rattle.elliptic.specs.Curve.{coefficients_of, coefficients_below}
use Rattle.point_count.specs.Singular.{candidate_x, candidate}
use Rattle.point_count.proofs.Columns.{columns_some, columns_none}

-- a test that cannot be true
unless : (b : Bool) → (b ≡ true → ⊥) → b ≡ false
unless true h = absurd (h refl)
unless false h = refl

module _ {F : Arithmetic} (K : Field F) (C : Curve) (below : coefficients_below F.q C ≡ true) where
  infixl 70 ◌·◌
  open F use {q, ◌·◌, inv}
  open C use {g1, g2, g3, g4, g6}
  open K use {add_lt, mul_lt, mul_inv}

  pub coefficient : (i : ℕ) → i < 5 → get_or (coefficients_of C) i 0 < q
  coefficient i h = ltb-true (get_or (coefficients_of C) i 0) q (all_get (λ g. ltb g q) (coefficients_of C) 0 i below h)

  pub g1_lt : g1 < q
  g1_lt = coefficient 0 (omega arith)

  pub g3_lt : g3 < q
  g3_lt = coefficient 2 (omega arith)

  g4_lt : g4 < q
  g4_lt = coefficient 3 (omega arith)

  pub right_lt : (x : ℕ) → right F C x < q
  right_lt x = add_lt _ g6 (add_lt _ _ (add_lt _ _ (mul_lt x (x · x)) (mul_lt g2 (x · x))) (mul_lt g4 x)) (coefficient 4 (omega arith))

  -- ---- one point is enough; that there is none is shown of every (X, Y)

  singular_yes : (x y : ℕ) → x < q → y < q → on_curve F C (point x y) ≡ true → g1 · x ⊕ g3 ≡ 0 → g1 · y ⊕ x · x ⊕ g4 ≡ 0 → singular F C ≡ true
  unfolding singular singular_at
  singular_yes x y hx hy on e f =
      columns_some (singular_at F C) q q x y hx hy (rw (on, eq-eqb (g1 · x ⊕ g3) 0 e, eq-eqb (g1 · y ⊕ x · x ⊕ g4) 0 f))

  singular_no : ((x y : ℕ) → x < q → y < q → on_curve F C (point x y) ≡ true → g1 · x ⊕ g3 ≡ 0 → g1 · y ⊕ x · x ⊕ g4 ≡ 0 → ⊥) → singular F C ≡ false
  unfolding singular singular_at
  singular_no h = columns_none (singular_at F C) q q (λ x y hx hy. unless _ (λ e. refuted x y hx hy e))
    where
      refuted : (x y : ℕ) → x < q → y < q → singular_at F C (point x y) ≡ true → ⊥
      refuted x y hx hy e =
          let t = both (on_curve F C (point x y)) _ e in
          let u = both (eqb (g1 · x ⊕ g3) 0) _ t.1 in
          h x y hx hy t.0 (eqb-true (g1 · x ⊕ g3) 0 u.0) (eqb-true (g1 · y ⊕ x · x ⊕ g4) 0 u.1)

  -- ---- g1 = 0: g3 = 0 is one of the conditions, and with it the square roots give a point that meets the others

  module _ (z : g1 ≡ 0) where
    pub trace_flat : (x : ℕ) → g1 · x ⊕ g3 ≡ g3
    trace_flat x = rw z (simp (zero_·, zero_⊕))

    roots_on : (x y : ℕ) → g3 ≡ 0 → y · y ≡ right F C x → on_curve F C (point x y) ≡ true
    unfolding on_curve
    roots_on x y w e = eq-eqb (left F C x y) (right F C x) (rw (z, w) (simp (zero_·, ⊕_zero) e))

    pub singular_flat : singular F C ≡ eqb g3 0
    singular_flat = go (eqb g3 0) refl
      where
        go : (b : Bool) → eqb g3 0 ≡ b → singular F C ≡ b
        go true e =
            let w = eqb-true g3 0 e in
            let x = root K g4 in
            singular_yes x (root K (right F C x)) (pow_lt K g4 _) (pow_lt K _ _)
            (roots_on x _ w (root_square K (right F C x) (right_lt x))) (trace_flat x ∙ w) (rw (z, root_square K g4 g4_lt) (simp (zero_·, zero_⊕, ⊕_self)))
        go false e = singular_no (λ x y hx hy on f g. eqb-false g3 0 e (sym (trace_flat x) ∙ f))

  -- ---- g1 ≠ 0: both conditions are solved

  module _ (n : g1 ≡ 0 → ⊥) where
    solution : (a : ℕ) → a < q → g1 · (a · inv g1) ⊕ a ≡ 0
    solution a h = rw (·_left_comm K g1 a (inv g1), mul_inv g1 g1_lt n, mul_one K a h) (⊕_self a)

    only_solution : (a x : ℕ) → x < q → g1 · x ⊕ a ≡ 0 → x ≡ a · inv g1
    only_solution a x h e = sym (inv_cancel K g1 x g1_lt n h) ∙ ap (λ t. inv g1 · t) (⊕_eq e) ∙ ·_comm K (inv g1) a

    pub singular_candidate : singular F C ≡ on_curve F C (candidate F C)
    unfolding candidate
    singular_candidate = go (on_curve F C (candidate F C)) refl
      where
        X : ℕ
        X = candidate_x F C

        go : (b : Bool) → on_curve F C (candidate F C) ≡ b → singular F C ≡ b
        go true e = singular_yes X _ (mul_lt g3 (inv g1)) (mul_lt _ (inv g1)) e (solution g3 g3_lt)
            (⊕_assoc _ (X · X) g4 ∙ solution (X · X ⊕ g4) (add_lt _ g4 (mul_lt X X) g4_lt))
        go false e = singular_no (λ x y hx hy on f g.
            let i = only_solution g3 x hx f in
            let j = only_solution (x · x ⊕ g4) y hy (sym (⊕_assoc (g1 · y) (x · x) g4) ∙ g) in
            false≢true (sym e ∙ (rw (j, i) at on)))
