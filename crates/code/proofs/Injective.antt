-- Points of a curve with the same slot are the same: two over one X are each other's opposite, and only one of them has the greater Y.
use Prim.Native.Nat.{ℕ, ◌+◌, ◌*◌, ◌<◌}
use mathlib.Core.Path.{◌≡◌, refl, sym, ◌∙◌, ap, ap₂}
use mathlib.Core.Bool.{Bool, true, false, cond}
use native.Mathlib.Omega.{arith}
use native.Mathlib.Decide.{ℕ_discrete}
use borrow.Author.Tests.{ltb-true, ltb-false, eq-eqb, ne_eqb, eqb-true}
use lib.Dec.{eqb, ltb}
use Rattle.basics.proofs.Lists.{both}
use Rattle.field.proofs.Sum.{⊕_assoc}
use Rattle.field.specs.Field.{Arithmetic, Field}
use Rattle.elliptic.specs.declared.Curve.{Curve}
use Rattle.elliptic.specs.declared.Point.{Point}
use Rattle.elliptic.specs.Curve.{point, same_point, opposite}
use Rattle.elliptic.proofs.Points.{On}
use Rattle.elliptic.proofs.Conjugate.{conjugate_at}
use Rattle.code.specs.Slots.{slot}

halves : (x y : ℕ) (a b : Bool) → x * 2 + cond a 1 0 ≡ y * 2 + cond b 1 0 → (x ≡ y) × (a ≡ b)
halves x y true true e = (omega arith, refl)
halves x y false false e = (omega arith, refl)
halves x y true false e = absurd (omega arith)
halves x y false true e = absurd (omega arith)

one_greater : (y z : ℕ) → ltb z y ≡ ltb y z → y ≡ z
one_greater y z e = by (ltb z y) (ltb y z) refl refl e
  where
    by : (a b : Bool) → ltb z y ≡ a → ltb y z ≡ b → ltb z y ≡ ltb y z → y ≡ z
    by true b p q e = absurd (omega (arith, ltb-true z y p, ltb-true y z (sym e ∙ p)))
    by false b p q e = omega (arith, ltb-false z y p, ltb-false y z (sym e ∙ p))

module _ {F : Arithmetic} (K : Field F) (C : Curve) (small : C.g3 < F.q) where
  infixl 70 ◌·◌
  open F use {q, ◌·◌}
  open C use {g1, g3}
  open K use {add_lt, mul_lt, one_mul}

  -- the other point over the same X is the opposite
  other : {P Q : Point} → On F C P → On F C Q → P.x ≡ Q.x → (P.y ≡ Q.y → ⊥) → Q.y ≡ (opposite F C P).y
  unfolding opposite
  other {P} p o e n =
      conjugate_at K C p o e n ∙ one_mul _ (add_lt _ _ p.y_lt (add_lt _ _ (mul_lt _ _) small)) ∙ sym (⊕_assoc P.y (g1 · P.x) g3)

  pub slot_injective : {P Q : Point} → On F C P → On F C Q → slot F C P ≡ slot F C Q → (P.x ≡ Q.x) × (P.y ≡ Q.y)
  unfolding slot
  slot_injective {P} {Q} p o e = (h.0, by (ℕ_discrete P.y Q.y))
    where
      h : (P.x ≡ Q.x) × (ltb (opposite F C P).y P.y ≡ ltb (opposite F C Q).y Q.y)
      h = halves P.x Q.x _ _ e

      by : Dec (P.y ≡ Q.y) → P.y ≡ Q.y
      by (yes d) = d
      by (no n) =
          one_greater P.y Q.y
          (ap (λ z. ltb z P.y) (other p o h.0 n) ∙ h.1 ∙ ap (λ z. ltb z Q.y) (sym (other o p (sym h.0) (λ d. n (sym d)))))

  -- so two points are the same exactly if their slots are
  pub slot_same : {P Q : Point} → On F C P → On F C Q → same_point P Q ≡ eqb (slot F C P) (slot F C Q)
  unfolding slot
  slot_same {P} {Q} p o = by (ℕ_discrete (slot F C P) (slot F C Q)) (same_point P Q) refl
    where
      by : Dec (slot F C P ≡ slot F C Q) → (b : Bool) → same_point P Q ≡ b → same_point P Q ≡ eqb (slot F C P) (slot F C Q)
      by (yes e) b h =
          let (x, y) = slot_injective p o e in
          simp (eq-eqb P.x Q.x x, eq-eqb P.y Q.y y) (sym (eq-eqb (slot F C P) (slot F C Q) e))
      by (no n) false h = h ∙ sym (ne_eqb (slot F C P) (slot F C Q) n)
      by (no n) true h =
          let (x, y) = both (eqb P.x Q.x) (eqb P.y Q.y) h in
          absurd (n (ap₂ (λ a b. slot F C (point a b)) (eqb-true P.x Q.x x) (eqb-true P.y Q.y y)))
