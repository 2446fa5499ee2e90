-- Over one X a curve has two points at most.
use Prim.Native.Nat.{ℕ, ◌<◌}
use mathlib.Core.Path.{◌≡◌, sym, ◌∙◌, subst}
use mathlib.Core.List.{List}
use Rattle.field.specs.Sum.{◌⊕◌}
use Rattle.field.proofs.Sum.{⊕_self, ⊕_eq}
use Rattle.field.specs.Field.{Arithmetic, Field}
use Rattle.field.proofs.Laws.{ring, no_zero_div, ·-⊕, ·_zero}
use Rattle.elliptic.specs.Curve.{Curve, Point, left, right}
use Rattle.elliptic.proofs.Points.{On, Differ, All, All.nil, All.cons, Away}

module _ {F : Arithmetic} (K : Field F) (C : Curve) where
  infixl 70 ◌·◌
  open F use {q, ◌·◌}
  open K use {add_lt, mul_lt, one_mul}
  open C use {g1, g3}

  -- the only other Y over x. The factor 1 brings it below q, whatever g3 is
  conjugate : (x y z : ℕ) → y < q → z < q → (y ≡ z → ⊥) → left F C x y ≡ left F C x z → z ≡ 1 · (y ⊕ (g1 · x ⊕ g3))
  conjugate x y z hy hz n e =
      let other : ℕ = y ⊕ (g1 · x ⊕ g3) in
      let product : (y ⊕ z) · (1 · (z ⊕ other)) ≡ 1 · (left F C x y ⊕ left F C x z) = simp (left, ring) in
      let zero : 1 · (z ⊕ other) ≡ 0 =
      no_zero_div K _ _ (add_lt _ _ hy hz) (mul_lt _ _) (λ s. n (⊕_eq s)) (product ∙ rw (e, ⊕_self) (·_zero K 1)) in
      sym (one_mul z hz) ∙ ⊕_eq (sym (·-⊕ K 1 z other) ∙ zero)

  pub conjugate_at : {P Q : Point} → On F C P → On F C Q → P.x ≡ Q.x → (P.y ≡ Q.y → ⊥) → Q.y ≡ 1 · (P.y ⊕ (g1 · P.x ⊕ g3))
  conjugate_at {P} {Q} p o e n =
      conjugate P.x P.y Q.y p.y_lt o.y_lt n (p.eqn ∙ sym (subst (λ x. left F C x Q.y ≡ right F C x) (sym e) o.eqn))

  -- past the two points over one X no point of the list lies over it
  pub past_both : {P Q : Point} {J : List Point} → On F C P → On F C Q → P.x ≡ Q.x → (P.y ≡ Q.y → ⊥)
      → All (On F C) J → All (Differ P) J → All (Differ Q) J → Away P.x J
  past_both p o e n nil nil nil = nil
  past_both p o e n (cons t ts) (cons d ds) (cons k ks) =
      cons (λ x. k (sym e ∙ sym x) (conjugate_at p o e n ∙ sym (conjugate_at p t (sym x) (d (sym x))))) (past_both p o e n ts ds ks)
