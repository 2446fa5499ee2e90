-- Functions as lists of coefficients in weight order, the constant first: their sums and their values.
use Prim.Native.Nat.{ℕ, zero, suc, ◌<◌, ◌≤◌, zero-le}
use mathlib.Core.Path.{◌≡◌, refl, sym, ◌∙◌, ap, ap₂, subst⁻¹}
use mathlib.Core.List.{List, [], ◌∷◌}
use native.Mathlib.Nat.{le_of_suc-le-suc, not-suc-le-zero}
use lib.ListN.{length}
use Rattle.field.specs.Sum.{◌⊕◌}
use Rattle.field.proofs.Sum.{zero_⊕}
use Rattle.field.specs.Field.{Arithmetic, Field}
use Rattle.field.proofs.Laws.{ring, zero_lt, inv_cancel}
use Rattle.elliptic.specs.Curve.{Point, point}
use Rattle.elliptic.specs.Pair.{horner, evaluate, add_scaled}

module _ (F : Arithmetic) where
  infixl 70 ◌·◌
  open F use {q, ◌·◌}

  -- at most n coefficients, all in the field
  pub data Under : ℕ → List ℕ → Type 0 where
    none : {n : ℕ} → Under n []
    more : {n c : ℕ} {cs : List ℕ} → c < q → Under n cs → Under (suc n) (c ∷ cs)

  -- n coefficients, all in the field
  pub record Coefficients (n : ℕ) (f : List ℕ) : Type 0 where
    pub under : Under n f
    pub size : length f ≡ n

  -- n + 1 coefficients, all in the field, of which the last is l
  pub data Lead (l : ℕ) : ℕ → List ℕ → Type 0 where
    top : {c : ℕ} → c ≡ l → l < q → Lead l 0 (c ∷ [])
    low : {n c : ℕ} {cs : List ℕ} → c < q → Lead l n cs → Lead l (suc n) (c ∷ cs)

  abbrev pub Zero : List ℕ → Point → Type 0
  Zero f P = evaluate F f P ≡ 0

  -- b(x), for f = a(X) + b(X)·Y
  unfoldable pub slope : List ℕ → ℕ → ℕ
  slope [] x = 0
  slope (c ∷ cs) x = (horner F x cs).1

-- how many coefficients a sum has
module _ (F : Arithmetic) (t : ℕ) where
  pub length_add : (h f : List ℕ) → length h ≤ length f → length (add_scaled F t h f) ≡ length f
  unfolding add_scaled
  length_add [] f e = refl
  length_add (c ∷ h) [] e = absurd (not-suc-le-zero e)
  length_add (c ∷ h) (d ∷ f) e = ap suc (length_add h f (le_of_suc-le-suc e))

  pub length_add_longer : (h f : List ℕ) → length f ≤ length h → length (add_scaled F t h f) ≡ length h
  unfolding add_scaled
  length_add_longer [] [] e = refl
  length_add_longer [] (d ∷ f) e = absurd (not-suc-le-zero e)
  length_add_longer (c ∷ h) [] e = ap suc (length_add_longer h [] zero-le)
  length_add_longer (c ∷ h) (d ∷ f) e = ap suc (length_add_longer h f (le_of_suc-le-suc e))

module _ {F : Arithmetic} (K : Field F) where
  infixl 70 ◌·◌
  open F use {q, ◌·◌, inv}
  open K use {add_lt, mul_lt}

  -- A step of an induction is a lemma over variables: `simp` sorts a sum by its terms, and a clause wants the same order in every reading.
  no_term : (t e : ℕ) → e ≡ e ⊕ t · 0
  no_term t e = simp ring

  new_step : (x t c d e : ℕ) → d ⊕ t · c ⊕ x · (0 ⊕ t · e) ≡ d ⊕ t · (c ⊕ x · e)
  new_step x t c d e = simp ring

  add_step : (x t c d e f : ℕ) → d ⊕ t · c ⊕ x · (f ⊕ t · e) ≡ d ⊕ x · f ⊕ t · (c ⊕ x · e)
  add_step x t c d e f = simp ring

  pub horner_add : (x t : ℕ) (h f : List ℕ)
      → ((horner F x (add_scaled F t h f)).0 ≡ (horner F x f).0 ⊕ t · (horner F x h).0)
      × ((horner F x (add_scaled F t h f)).1 ≡ (horner F x f).1 ⊕ t · (horner F x h).1)
  unfolding horner add_scaled
  horner_add x t [] f = (no_term t _, no_term t _)
  horner_add x t (c ∷ cs) [] = (ap (λ e. 0 ⊕ t · c ⊕ x · e) (horner_add x t cs []).1 ∙ new_step x t c 0 _, (horner_add x t cs []).0)
  horner_add x t (c ∷ cs) (d ∷ ds) = (ap (λ e. d ⊕ t · c ⊕ x · e) (horner_add x t cs ds).1 ∙ add_step x t c d _ _, (horner_add x t cs ds).0)

  new_steps : (x y t c r s : ℕ) → 0 ⊕ t · c ⊕ x · (0 ⊕ t · r) ⊕ y · (0 ⊕ t · s) ≡ 0 ⊕ t · (c ⊕ x · r ⊕ y · s)
  new_steps x y t c r s = simp ring

  add_steps : (x y t c d r s u v : ℕ) → d ⊕ t · c ⊕ x · (u ⊕ t · r) ⊕ y · (v ⊕ t · s) ≡ d ⊕ x · u ⊕ y · v ⊕ t · (c ⊕ x · r ⊕ y · s)
  add_steps x y t c d r s u v = simp ring

  pub evaluate_add : (t : ℕ) (h f : List ℕ) (P : Point) → evaluate F (add_scaled F t h f) P ≡ evaluate F f P ⊕ t · evaluate F h P
  unfolding evaluate add_scaled horner
  evaluate_add t [] f P = no_term t _
  evaluate_add t (c ∷ cs) [] P =
      ap₂ (λ u v. 0 ⊕ t · c ⊕ P.x · u ⊕ P.y · v) (horner_add P.x t cs []).0 (horner_add P.x t cs []).1 ∙ new_steps P.x P.y t c _ _
  evaluate_add t (c ∷ cs) (d ∷ ds) P =
      ap₂ (λ u v. d ⊕ t · c ⊕ P.x · u ⊕ P.y · v) (horner_add P.x t cs ds).0 (horner_add P.x t cs ds).1 ∙ add_steps P.x P.y t c d _ _ _ _

  -- a multiple of h does not show where h is zero
  pub evaluate_same : (t : ℕ) (h f : List ℕ) (P : Point) → Zero F h P → evaluate F (add_scaled F t h f) P ≡ evaluate F f P
  evaluate_same t h f P z = evaluate_add t h f P ∙ ap (λ v. evaluate F f P ⊕ t · v) z ∙ sym (no_term t _)

  pub slope_add : (t : ℕ) (h f : List ℕ) (x : ℕ) → slope F (add_scaled F t h f) x ≡ slope F f x ⊕ t · slope F h x
  unfolding slope add_scaled horner
  slope_add t [] f x = no_term t _
  slope_add t (c ∷ cs) [] x = (horner_add x t cs []).1
  slope_add t (c ∷ cs) (d ∷ ds) x = (horner_add x t cs ds).1

  no_slope : (y z : ℕ) → 0 ≡ 0 ⊕ (y ⊕ z) · 0
  no_slope y z = simp ring

  slope_step : (c x y z r s : ℕ) → c ⊕ x · r ⊕ y · s ≡ c ⊕ x · r ⊕ z · s ⊕ (y ⊕ z) · s
  slope_step c x y z r s = simp ring

  -- the two values over one x
  pub evaluate_slope : (f : List ℕ) (x y z : ℕ) → evaluate F f (point x y) ≡ evaluate F f (point x z) ⊕ (y ⊕ z) · slope F f x
  unfolding evaluate slope
  evaluate_slope [] x y z = no_slope y z
  evaluate_slope (c ∷ cs) x y z = slope_step c x y z _ _

  -- the quotient of two values is that multiple of the second which is the first
  pub quotient_times : (a b : ℕ) → a < q → b < q → (b ≡ 0 → ⊥) → a · inv b · b ≡ a
  quotient_times a b ha hb n =
      let order : a · inv b · b ≡ inv b · (b · a) = simp ring in
      order ∙ inv_cancel K b a hb n ha

  -- ---- bounds

  pub evaluate_lt : {n : ℕ} {f : List ℕ} → Under F n f → (P : Point) → evaluate F f P < q
  unfolding evaluate
  evaluate_lt none P = zero_lt K
  evaluate_lt (more h u) P = add_lt _ _ (add_lt _ _ h (mul_lt _ _)) (mul_lt _ _)

  pub horner_lt : {n : ℕ} {f : List ℕ} → Under F n f → (x : ℕ) → ((horner F x f).0 < q) × ((horner F x f).1 < q)
  unfolding horner
  horner_lt none x = (zero_lt K, zero_lt K)
  horner_lt (more h u) x = (add_lt _ _ h (mul_lt _ _), (horner_lt u x).0)

  pub slope_lt : {n : ℕ} {f : List ℕ} → Under F n f → (x : ℕ) → slope F f x < q
  unfolding slope
  slope_lt none x = zero_lt K
  slope_lt (more h u) x = (horner_lt u x).1

  pub under_le : {m n : ℕ} {f : List ℕ} → m ≤ n → Under F m f → Under F n f
  under_le h none = none
  under_le {n = zero} h (more hc u) = absurd (not-suc-le-zero h)
  under_le {n = suc n} h (more hc u) = more hc (under_le (le_of_suc-le-suc h) u)

  pub lead_lt : {l n : ℕ} {f : List ℕ} → Lead F l n f → l < q
  lead_lt (top e h) = h
  lead_lt (low h t) = lead_lt t

  pub lead_length : {l n : ℕ} {f : List ℕ} → Lead F l n f → length f ≡ suc n
  lead_length (top e h) = refl
  lead_length (low h t) = ap suc (lead_length t)

  pub lead_under : {l n : ℕ} {f : List ℕ} → Lead F l n f → Under F (suc n) f
  lead_under (top e h) = more (subst⁻¹ (λ c. c < q) e h) none
  lead_under (low h t) = more h (lead_under t)

  pub lead_coefficients : {l n : ℕ} {f : List ℕ} → Lead F l n f → Coefficients F (suc n) f
  lead_coefficients t = record { under = lead_under t; size = lead_length t }

  pub under_add : {n : ℕ} {h f : List ℕ} (t : ℕ) → Under F n h → Under F n f → Under F n (add_scaled F t h f)
  unfolding add_scaled
  under_add t none v = v
  under_add t (more h u) none = more (add_lt _ _ (zero_lt K) (mul_lt _ _)) (under_add t u none)
  under_add t (more h u) (more k v) = more (add_lt _ _ k (mul_lt _ _)) (under_add t u v)

  -- the leading coefficient of f + t·h: that of f where f is the heavier, else that of t·h, and the sum where both are of one weight
  pub lead_heavy : {l n : ℕ} {h f : List ℕ} (t : ℕ) → Under F n h → Lead F l n f → Lead F l n (add_scaled F t h f)
  unfolding add_scaled
  lead_heavy t none v = v
  lead_heavy t (more h u) (low k v) = low (add_lt _ _ k (mul_lt _ _)) (lead_heavy t u v)

  pub lead_light : {l n : ℕ} {h f : List ℕ} (t : ℕ) → Lead F l n h → Under F n f → Lead F (t · l) n (add_scaled F t h f)
  unfolding add_scaled
  lead_light t (top e h) none = top (zero_⊕ _ ∙ ap (λ c. t · c) e) (mul_lt _ _)
  lead_light t (low h u) none = low (add_lt _ _ (zero_lt K) (mul_lt _ _)) (lead_light t u none)
  lead_light t (low h u) (more k v) = low (add_lt _ _ k (mul_lt _ _)) (lead_light t u v)

  pub lead_both : {l m n : ℕ} {h f : List ℕ} (t : ℕ) → Lead F m n h → Lead F l n f → Lead F (l ⊕ t · m) n (add_scaled F t h f)
  unfolding add_scaled
  lead_both t (top e h) (top g k) = top (ap₂ (λ d c. d ⊕ t · c) g e) (add_lt _ _ k (mul_lt _ _))
  lead_both t (low h u) (low k v) = low (add_lt _ _ k (mul_lt _ _)) (lead_both t u v)
