-- The curve's equation in the form that the code computes, with one product for each Y: the laws of a ring alone, so that no bound is needed.
use Prim.Native.Nat.{ℕ, zero, suc}
use mathlib.Core.Path.{◌≡◌, refl, sym, ◌∙◌}
use mathlib.Core.Bool.{Bool}
use mathlib.Core.List.{[], ◌∷◌}
use lib.Dec.{eqb}
use Rattle.basics.specs.Lists.{filter, table}
use Rattle.basics.proofs.Lists.{filter_append}
use Rattle.field.specs.Sum.{◌⊕◌}
use Rattle.field.specs.Field.{Arithmetic, Field}
use Rattle.field.specs.Galois.{IsField, product, galois}
use Rattle.field.proofs.Laws.{ring}
use Rattle.field.proofs.Galois.{galois_field}
use Rattle.elliptic.specs.declared.Curve.{Curve}
use Rattle.elliptic.specs.declared.Point.{Point}
use Rattle.elliptic.specs.Curve.{point, left, right, on_curve}

-- Y² + t·Y = v, tested by one product
abbrev pub solution : ℕ → ℕ → ℕ → Point → Bool
solution m t v P = eqb (product m P.y (P.y ⊕ t)) v

-- two tests that agree keep the same points
kept_as : (p r : Point → Bool) (f : ℕ → Point) (n : ℕ) → ((i : ℕ) → p (f i) ≡ r (f i)) → filter p (table f n) ≡ filter r (table f n)
kept_as p r f zero h = refl
kept_as p r f (suc n) h = filter_append p (table f n) (f n ∷ []) ∙ rw (kept_as p r f n h, h n) (sym (filter_append r (table f n) (f n ∷ [])))

module _ {F : Arithmetic} (K : Field F) (C : Curve) where
  infixl 70 ◌·◌
  open F use {◌·◌}
  open C use {g1, g2, g3, g4, g6}

  pub left_product : (x y : ℕ) → y · (y ⊕ (g1 · x ⊕ g3)) ≡ left F C x y
  left_product x y = simp ring

  pub right_horner : (x : ℕ) → x · (x · (x ⊕ g2) ⊕ g4) ⊕ g6 ≡ right F C x
  right_horner x = simp ring

  pub on_product : (x y : ℕ) → eqb (y · (y ⊕ (g1 · x ⊕ g3))) (right F C x) ≡ on_curve F C (point x y)
  unfolding on_curve
  on_product x y = rw (left_product x y)

-- the points over x are the solutions
pub column_as : {m : ℕ} → IsField m → (C : Curve) (x n : ℕ) → filter (solution m (product m C.g1 x ⊕ C.g3) (right (galois m) C x)) (table (point x) n) ≡ filter (on_curve (galois m) C) (table (point x) n)
column_as {m} h C x n = kept_as _ (on_curve (galois m) C) (point x) n (λ y. on_product (galois_field h) C x y)
