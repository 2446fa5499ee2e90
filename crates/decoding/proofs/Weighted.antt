-- The coefficient of a function at each weight: of sums, of (X + α)·f as far as there is room, and that the coefficients decide the values.
use Prim.Native.Nat.{ℕ, zero, suc, ◌<◌, ◌≤◌}
use mathlib.Core.Path.{◌≡◌, refl, sym, ◌∙◌, ap, ap₂}
use mathlib.Core.List.{List, [], ◌∷◌}
use native.Mathlib.Nat.{le_of_suc-le-suc}
use native.Mathlib.Omega.{arith}
use native.Mathlib.Decide.{dec_lt}
use lib.ListN.{length, get_or, get_or-eq_default}
use Rattle.field.specs.Sum.{◌⊕◌}
use Rattle.field.proofs.Sum.{zero_⊕}
use Rattle.field.specs.Field.{Arithmetic, Field}
use Rattle.field.proofs.Laws.{ring, zero_lt, ·_zero}
use Rattle.elliptic.specs.declared.Point.{Point}
use Rattle.elliptic.specs.Functions.{weight}
use Rattle.elliptic.specs.Pair.{horner, evaluate, add_scaled, shifted, times_linear}
use Rattle.elliptic.proofs.Weights.{weight_le}
use Rattle.elliptic.proofs.Function.{Under, Under.none, Under.more, Zero, evaluate_add}
use Rattle.elliptic.proofs.Products.{times_x, evaluate_x, length_linear}

-- the coefficient of weight w: no monomial weighs 1
unfoldable pub coef : List ℕ → ℕ → ℕ
coef f zero = get_or f 0 0
coef f (suc zero) = 0
coef f (suc (suc w)) = get_or f (suc w) 0

-- the coefficient at an index
pub coef_index : (f : List ℕ) (i : ℕ) → coef f (weight i) ≡ get_or f i 0
unfolding coef weight
coef_index f zero = refl
coef_index f (suc i) = refl

-- no coefficient weighs more than the last
pub coef_past : (f : List ℕ) (n w : ℕ) → length f ≤ suc n → weight n < w → coef f w ≡ 0
unfolding coef weight
coef_past f n zero h l = absurd (omega arith)
coef_past f n (suc zero) h l = refl
coef_past f zero (suc (suc w)) h l = get_or-eq_default f 0 (omega arith)
coef_past f (suc n) (suc (suc w)) h l = get_or-eq_default f 0 (omega arith)

coef_none : (w : ℕ) → coef [] w ≡ 0
unfolding coef
coef_none zero = refl
coef_none (suc zero) = refl
coef_none (suc (suc w)) = refl

coef_x : (f : List ℕ) (w : ℕ) → coef (times_x f) (suc (suc w)) ≡ coef f w
unfolding coef times_x
coef_x [] zero = refl
coef_x [] (suc zero) = refl
coef_x [] (suc (suc w)) = refl
coef_x (c ∷ []) zero = refl
coef_x (c ∷ []) (suc zero) = refl
coef_x (c ∷ []) (suc (suc w)) = refl
coef_x (c ∷ d ∷ cs) zero = refl
coef_x (c ∷ d ∷ cs) (suc zero) = refl
coef_x (c ∷ d ∷ cs) (suc (suc w)) = refl

coef_x_zero : (f : List ℕ) → coef (times_x f) 0 ≡ 0
unfolding coef times_x
coef_x_zero [] = refl
coef_x_zero (c ∷ []) = refl
coef_x_zero (c ∷ d ∷ cs) = refl

pub coef_one : (f : List ℕ) → coef f 1 ≡ 0
unfolding coef
coef_one f = refl

module _ (F : Arithmetic) where
  infixl 70 ◌·◌
  open F use {◌·◌}

  get_shifted : (α a b : ℕ) (cs : List ℕ) (i : ℕ) → i < length cs → get_or (shifted F α a b cs) i 0 ≡ get_or (a ∷ b ∷ cs) i 0 ⊕ α · get_or cs i 0
  unfolding shifted
  get_shifted α a b [] i h = absurd (omega arith)
  get_shifted α a b (c ∷ cs) zero h = refl
  get_shifted α a b (c ∷ cs) (suc i) h = get_shifted α b c cs i (le_of_suc-le-suc h)

  -- (X + α)·f, within the length of f
  pub coef_linear : (α : ℕ) (f : List ℕ) (w : ℕ) → suc w < length f → coef (times_linear F α f) (suc (suc w)) ≡ coef f w ⊕ α · coef f (suc (suc w))
  unfolding coef times_linear
  coef_linear α [] w h = absurd (omega arith)
  coef_linear α (c ∷ cs) zero h = get_shifted α c 0 cs zero (le_of_suc-le-suc h)
  coef_linear α (c ∷ cs) (suc zero) h = get_shifted α c 0 cs (suc zero) (le_of_suc-le-suc h)
  coef_linear α (c ∷ cs) (suc (suc w)) h = get_shifted α c 0 cs (suc (suc w)) (le_of_suc-le-suc h)

module _ {F : Arithmetic} (K : Field F) where
  infixl 70 ◌·◌
  open F use {q, ◌·◌}

  no_term : (t e : ℕ) → e ≡ e ⊕ t · 0
  no_term t e = simp ring

  pub get_add : (t : ℕ) (h f : List ℕ) (i : ℕ) → get_or (add_scaled F t h f) i 0 ≡ get_or f i 0 ⊕ t · get_or h i 0
  unfolding add_scaled
  get_add t [] f i = no_term t _
  get_add t (c ∷ h) [] zero = refl
  get_add t (c ∷ h) [] (suc i) = get_add t h [] i
  get_add t (c ∷ h) (d ∷ f) zero = refl
  get_add t (c ∷ h) (d ∷ f) (suc i) = get_add t h f i

  pub coef_add : (t : ℕ) (h f : List ℕ) (w : ℕ) → coef (add_scaled F t h f) w ≡ coef f w ⊕ t · coef h w
  unfolding coef
  coef_add t h f zero = get_add t h f 0
  coef_add t h f (suc zero) = no_term t 0
  coef_add t h f (suc (suc w)) = get_add t h f (suc w)

  pub coef_linear_zero : (α : ℕ) (f : List ℕ) → coef (times_linear F α f) 0 ≡ α · coef f 0
  unfolding coef times_linear
  coef_linear_zero α [] = sym (·_zero K α)
  coef_linear_zero α (c ∷ cs) = refl

  get_lt : {n : ℕ} {f : List ℕ} → Under F n f → (i : ℕ) → get_or f i 0 < q
  get_lt none i = zero_lt K
  get_lt (more h u) zero = h
  get_lt (more h u) (suc i) = get_lt u i

  pub coef_lt : {n : ℕ} {f : List ℕ} → Under F n f → (w : ℕ) → coef f w < q
  unfolding coef
  coef_lt u zero = get_lt u 0
  coef_lt u (suc zero) = zero_lt K
  coef_lt u (suc (suc w)) = get_lt u (suc w)

  -- ---- values

  zero_step : (x : ℕ) → 0 ⊕ x · 0 ≡ 0
  zero_step x = simp ring

  zero_pair : (x : ℕ) → ◌≡◌ {A = ℕ × ℕ} (0 ⊕ x · 0, 0) (0, 0)
  zero_pair x = ap (λ t. (t, 0)) (zero_step x)

  horner_same : (x : ℕ) (f g : List ℕ) → ((i : ℕ) → get_or f i 0 ≡ get_or g i 0) → horner F x f ≡ horner F x g
  unfolding horner
  horner_same x [] [] e = refl
  horner_same x [] (d ∷ g) e = sym (zero_pair x) ∙ ap₂ (λ c h. (c ⊕ x · h.1, h.0)) (e 0) (horner_same x [] g (λ i. e (suc i)))
  horner_same x (c ∷ f) [] e = ap₂ (λ c h. (c ⊕ x · h.1, h.0)) (e 0) (horner_same x f [] (λ i. e (suc i))) ∙ zero_pair x
  horner_same x (c ∷ f) (d ∷ g) e = ap₂ (λ c h. (c ⊕ x · h.1, h.0)) (e 0) (horner_same x f g (λ i. e (suc i)))

  zero_steps : (x y : ℕ) → 0 ⊕ x · 0 ⊕ y · 0 ≡ 0
  zero_steps x y = simp ring

  evaluate_get : (f g : List ℕ) (P : Point) → ((i : ℕ) → get_or f i 0 ≡ get_or g i 0) → evaluate F f P ≡ evaluate F g P
  unfolding evaluate horner
  evaluate_get [] [] P e = refl
  evaluate_get [] (d ∷ g) P e =
      sym (zero_steps P.x P.y) ∙ ap₂ (λ c h. c ⊕ P.x · h.0 ⊕ P.y · h.1) (e 0) (horner_same P.x [] g (λ i. e (suc i)))
  evaluate_get (c ∷ f) [] P e =
      ap₂ (λ c h. c ⊕ P.x · h.0 ⊕ P.y · h.1) (e 0) (horner_same P.x f [] (λ i. e (suc i))) ∙ zero_steps P.x P.y
  evaluate_get (c ∷ f) (d ∷ g) P e = ap₂ (λ c h. c ⊕ P.x · h.0 ⊕ P.y · h.1) (e 0) (horner_same P.x f g (λ i. e (suc i)))

  -- the coefficients decide the values
  pub evaluate_coef : (f g : List ℕ) (P : Point) → ((w : ℕ) → coef f w ≡ coef g w) → evaluate F f P ≡ evaluate F g P
  evaluate_coef f g P e = evaluate_get f g P (λ i. sym (coef_index f i) ∙ e (weight i) ∙ coef_index g i)

  pub evaluate_none : (f : List ℕ) (P : Point) → ((w : ℕ) → coef f w ≡ 0) → Zero F f P
  unfolding evaluate
  evaluate_none f P e = evaluate_coef f [] P (λ w. e w ∙ sym (coef_none w))

  sum_step : (x α v : ℕ) → x · v ⊕ α · v ≡ (x ⊕ α) · v
  sum_step x α v = simp ring

  -- nothing is lost of (X + α)·f where the two heaviest coefficients of f are zero
  pub evaluate_linear : (α : ℕ) (f : List ℕ) (P : Point) → ((w : ℕ) → length f ≤ suc w → coef f w ≡ 0) → evaluate F (times_linear F α f) P ≡ (P.x ⊕ α) · evaluate F f P
  evaluate_linear α f P z =
      evaluate_coef (times_linear F α f) (add_scaled F α f (times_x f)) P (λ w. same w ∙ sym (coef_add α f (times_x f) w))
      ∙ evaluate_add K α f (times_x f) P ∙ ap (λ u. u ⊕ α · evaluate F f P) (evaluate_x K f P) ∙ sum_step P.x α _
    where
      by : (w : ℕ) → Dec (suc w < length f) → coef (times_linear F α f) (suc (suc w)) ≡ coef f w ⊕ α · coef f (suc (suc w))
      by w (yes h) = coef_linear F α f w h
      by w (no h) =
          coef_past _ w (suc (suc w)) (omega (arith, length_linear F α f)) (omega (arith, weight_le w))
          ∙ no_term α 0 ∙ ap₂ (λ a b. a ⊕ α · b) (sym (z w (omega arith))) (sym (z (suc (suc w)) (omega arith)))

      same : (w : ℕ) → coef (times_linear F α f) w ≡ coef (times_x f) w ⊕ α · coef f w
      same zero = coef_linear_zero α f ∙ sym (zero_⊕ _) ∙ ap (λ a. a ⊕ α · coef f 0) (sym (coef_x_zero f))
      same (suc zero) = coef_one _ ∙ no_term α 0 ∙ ap₂ (λ a b. a ⊕ α · b) (sym (coef_one (times_x f))) (sym (coef_one f))
      same (suc (suc w)) = by w (dec_lt (suc w) (length f)) ∙ ap (λ a. a ⊕ α · coef f (suc (suc w))) (sym (coef_x f w))
