-- The quotient of a function by X + α, and when there is no remainder.
use Prim.Native.Nat.{ℕ, suc, ◌+◌, ◌<◌}
use mathlib.Core.Path.{◌≡◌, refl, sym, ◌∙◌, ap₂}
use mathlib.Core.List.{List, [], ◌∷◌}
use native.Mathlib.Omega.{arith}
use Rattle.field.specs.Sum.{◌⊕◌}
use Rattle.field.proofs.Sum.{⊕_eq}
use Rattle.field.specs.Field.{Arithmetic, Field}
use Rattle.field.proofs.Laws.{ring, no_zero_div}
use Rattle.elliptic.specs.Functions.{weight}
use Rattle.elliptic.specs.Curve.{Point, point}
use Rattle.elliptic.specs.Pair.{horner, evaluate}
use Rattle.elliptic.proofs.Function.{Under, Under.more, Lead, Lead.top, Lead.low, Zero, slope, evaluate_slope, evaluate_lt, horner_lt, lead_under}

module _ (F : Arithmetic) where
  infixl 70 ◌·◌
  open F use {◌·◌}

  -- the first sum of Horner's rule at α, of a list and of its tails
  unfoldable pub tails : ℕ → List ℕ → List ℕ
  tails α [] = []
  tails α (c ∷ cs) = (horner F α (c ∷ cs)).0 ∷ tails α cs

  unfoldable pub quotient : ℕ → List ℕ → List ℕ
  quotient α [] = []
  quotient α (c ∷ []) = []
  quotient α (c ∷ d ∷ []) = d ∷ []
  quotient α (c ∷ d ∷ e ∷ cs) = (d ⊕ α · (horner F α cs).0) ∷ tails α cs

module _ {F : Arithmetic} (K : Field F) where
  infixl 70 ◌·◌
  open F use {q, ◌·◌}
  open K use {add_lt, mul_lt}

  none : (x α : ℕ) → (x ⊕ α) · 0 ≡ x · 0 ⊕ α · 0
  none x α = simp ring

  tails_step : (x α c e f s : ℕ) → (x ⊕ α) · s ≡ x · e ⊕ α · f
      → (x ⊕ α) · (c ⊕ α · f ⊕ x · s) ≡ x · (c ⊕ x · e) ⊕ α · (c ⊕ α · f)
  tails_step x α c e f s h =
      let apart : (x ⊕ α) · (c ⊕ α · f ⊕ x · s) ≡ (x ⊕ α) · (c ⊕ α · f) ⊕ x · ((x ⊕ α) · s) = simp ring in
      apart ∙ rw h (simp ring)

  horner_tails : (x α : ℕ) (cs : List ℕ)
      → ((x ⊕ α) · (horner F x (tails F α cs)).0 ≡ x · (horner F x cs).0 ⊕ α · (horner F α cs).0)
      × ((x ⊕ α) · (horner F x (tails F α cs)).1 ≡ x · (horner F x cs).1 ⊕ α · (horner F α cs).1)
  unfolding horner tails
  horner_tails x α [] = (none x α, none x α)
  horner_tails x α (c ∷ cs) = (tails_step x α c (horner F x cs).1 (horner F α cs).1 _ (horner_tails x α cs).1, (horner_tails x α cs).0)

  no_term : (x α : ℕ) → (x ⊕ α) · 0 ≡ 0 ⊕ 0
  no_term x α = simp ring

  one_term : (x α y c : ℕ) → (x ⊕ α) · 0 ≡ c ⊕ x · 0 ⊕ y · 0 ⊕ (c ⊕ α · 0 ⊕ y · 0)
  one_term x α y c = simp ring

  two_terms : (x α y c d : ℕ) → (x ⊕ α) · (d ⊕ x · 0 ⊕ y · 0) ≡ c ⊕ x · (d ⊕ x · 0) ⊕ y · 0 ⊕ (c ⊕ α · (d ⊕ α · 0) ⊕ y · 0)
  two_terms x α y c d = simp ring

  more_terms : (x α y c d e r s r' s' u v : ℕ) → (x ⊕ α) · u ≡ x · r ⊕ α · r' → (x ⊕ α) · v ≡ x · s ⊕ α · s'
      → (x ⊕ α) · (d ⊕ α · r' ⊕ x · u ⊕ y · v) ≡ c ⊕ x · (d ⊕ x · r) ⊕ y · (e ⊕ x · s) ⊕ (c ⊕ α · (d ⊕ α · r') ⊕ y · (e ⊕ α · s'))
  more_terms x α y c d e r s r' s' u v g h =
      let apart : (x ⊕ α) · (d ⊕ α · r' ⊕ x · u ⊕ y · v) ≡ (x ⊕ α) · (d ⊕ α · r') ⊕ x · ((x ⊕ α) · u) ⊕ y · ((x ⊕ α) · v) = simp ring in
      apart ∙ rw (g, h) (simp ring)

  -- what is left of f is its value at x = α
  pub evaluate_quotient : (α : ℕ) (f : List ℕ) (P : Point) → (P.x ⊕ α) · evaluate F (quotient F α f) P ≡ evaluate F f P ⊕ evaluate F f (point α P.y)
  unfolding evaluate quotient horner
  evaluate_quotient α [] P = no_term P.x α
  evaluate_quotient α (c ∷ []) P = one_term P.x α P.y c
  evaluate_quotient α (c ∷ d ∷ []) P = two_terms P.x α P.y c d
  evaluate_quotient α (c ∷ d ∷ e ∷ cs) P =
      more_terms P.x α P.y c d e _ _ _ _ _ _ (horner_tails P.x α cs).0 (horner_tails P.x α cs).1

  constant : (x y c : ℕ) → c ⊕ x · 0 ⊕ y · 0 ≡ c
  constant x y c = simp ring

  linear : (x c : ℕ) → c ⊕ x · 0 ≡ c
  linear x c = simp ring

  lead_tails : {l n : ℕ} {cs : List ℕ} (α : ℕ) → Lead F l n cs → Lead F l n (tails F α cs)
  unfolding tails horner
  lead_tails α (top {c} e h) = top (linear α c ∙ e) h
  lead_tails α (low h t) = low (horner_lt K (more h (lead_under K t)) α).0 (lead_tails α t)

  module _ (f : List ℕ) (P : Point) (at-P : Zero F f P) (flat : slope F f P.x ≡ 0) where
    -- f is zero at (α, β) and b at α: so is f at α and any y
    divisible : (y : ℕ) → Zero F f (point P.x y)
    divisible y = evaluate_slope K f P.x y P.y ∙ ap₂ (λ u v. u ⊕ (y ⊕ P.y) · v) at-P flat ∙ simp ring

    -- the quotient is zero where f is, at points that do not lie over α
    pub zero_quotient : {n : ℕ} (R : Point) → P.x < q → R.x < q → (R.x ≡ P.x → ⊥) → Under F n (quotient F P.x f) → Zero F f R → Zero F (quotient F P.x f) R
    zero_quotient R hp hr n u z =
        no_zero_div K _ _ (add_lt _ _ hr hp) (evaluate_lt K u R) (λ e. n (⊕_eq e))
        (evaluate_quotient P.x f R ∙ ap₂ (λ a b. a ⊕ b) z (divisible R.y) ∙ simp ring)

  -- it is lighter by 2, the weight of X
  pub lead_quotient : {l n : ℕ} {f : List ℕ} (P : Point) → (l ≡ 0 → ⊥) → Lead F l n f → Zero F f P → slope F f P.x ≡ 0
      → (m : ℕ) × (weight n ≡ weight m + 2) × Lead F l m (quotient F P.x f)
  unfolding evaluate slope quotient horner weight
  lead_quotient P nonzero (top e h) z s = absurd (nonzero (sym e ∙ sym (constant P.x P.y _) ∙ z))
  lead_quotient P nonzero (low h (top e k)) z s = (0, refl, top e k)
  lead_quotient P nonzero (low h (low k (top e g))) z s = absurd (nonzero (sym e ∙ sym (linear P.x _) ∙ s))
  lead_quotient P nonzero (low h (low k (low {n} g t))) z s = (suc n, omega arith, low (add_lt _ _ k (mul_lt _ _)) (lead_tails P.x t))
