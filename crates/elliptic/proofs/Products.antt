-- X and Y times a function, Y-as-Y by the curve's equation.
use Prim.Native.Nat.{ℕ, suc, ◌+◌, ◌<◌}
use mathlib.Core.Path.{◌≡◌, refl, sym, ◌∙◌, ap, ap₂, subst}
use mathlib.Core.List.{List, [], ◌∷◌, ◌++◌}
use mathlib.Core.Bool.{cond}
use native.Mathlib.Omega.{arith}
use lib.ListN.{length, replicate, length-append, length-replicate}
use borrow.Author.Tests.{ne_eqb}
use Rattle.field.specs.Sum.{◌⊕◌}
use Rattle.field.proofs.Sum.{zero_⊕}
use Rattle.field.specs.Field.{Arithmetic, Field}
use Rattle.field.proofs.Laws.{ring, zero_lt, mul_one, ·_zero}
use Rattle.elliptic.specs.Functions.{weight}
use Rattle.elliptic.specs.Curve.{Curve, Point, left, right}
use Rattle.elliptic.specs.Pair.{horner, evaluate, add_scaled, growth, shifted, times_linear, raised}
use Rattle.elliptic.proofs.Points.{On}
use Rattle.elliptic.proofs.Weights.{weight_index, weight_less}
use Rattle.elliptic.proofs.Function.{Under.none, Lead, Lead.top, Lead.low, evaluate_add, under_add, under_le, lead_under, lead_heavy, lead_light}

-- X·f: X takes 1 to X, and every later monomial to the next but one
unfoldable pub times_x : List ℕ → List ℕ
times_x [] = []
times_x (c ∷ []) = 0 ∷ c ∷ []
times_x (c ∷ d ∷ cs) = 0 ∷ c ∷ 0 ∷ d ∷ cs

-- how many coefficients (X + α)·f has
module _ (F : Arithmetic) where
  length_shifted : (α a b : ℕ) (cs : List ℕ) → length (shifted F α a b cs) ≡ length cs
  unfolding shifted
  length_shifted α a b [] = refl
  length_shifted α a b (c ∷ cs) = ap suc (length_shifted α b c cs)

  pub length_linear : (α : ℕ) (f : List ℕ) → length (times_linear F α f) ≡ length f
  unfolding times_linear
  length_linear α [] = refl
  length_linear α (c ∷ cs) = ap suc (length_shifted α c 0 cs)

  pub length_raised : (α : ℕ) (f : List ℕ) → length (raised F α f) ≡ length f + growth (length f)
  unfolding raised
  length_raised α f = length_linear α _ ∙ length-append f _ ∙ ap (λ n. length f + n) (length-replicate _ 0)

growth_two : (n : ℕ) → growth (suc (suc n)) ≡ 2
growth_two n = ap (λ b. cond b 1 2) (ne_eqb (suc (suc n)) 1 (λ e. omega arith))

module _ {F : Arithmetic} (K : Field F) where
  infixl 70 ◌·◌
  open F use {q, ◌·◌}
  open K use {one_lt, mul_lt}

  two_terms : (x y c : ℕ) → 0 ⊕ x · (c ⊕ x · 0) ⊕ y · 0 ≡ x · (c ⊕ x · 0 ⊕ y · 0)
  two_terms x y c = simp ring

  more_terms : (x y c r s : ℕ) → 0 ⊕ x · (c ⊕ x · r) ⊕ y · (0 ⊕ x · s) ≡ x · (c ⊕ x · r ⊕ y · s)
  more_terms x y c r s = simp ring

  pub evaluate_x : (f : List ℕ) (P : Point) → evaluate F (times_x f) P ≡ P.x · evaluate F f P
  unfolding times_x evaluate horner
  evaluate_x [] P = sym (·_zero K _)
  evaluate_x (c ∷ []) P = two_terms P.x P.y c
  evaluate_x (c ∷ d ∷ cs) P = more_terms P.x P.y c _ _

  -- X weighs 2
  pub lead_x : {l n : ℕ} {f : List ℕ} → Lead F l n f → (m : ℕ) × (weight m ≡ weight n + 2) × Lead F l m (times_x f)
  unfolding times_x weight
  lead_x (top e h) = (1, refl, low (zero_lt K) (top e h))
  lead_x (low c (top e h)) = (3, refl, low (zero_lt K) (low c (low (zero_lt K) (top e h))))
  lead_x (low c (low {n} d t)) = (suc (suc (suc (suc n))), omega arith, low (zero_lt K) (low c (low (zero_lt K) (low d t))))

  -- ---- X + α times a function, as it is computed

  shifted_is : (α a b : ℕ) (cs : List ℕ) → shifted F α a b (cs ++ 0 ∷ 0 ∷ []) ≡ add_scaled F α cs (a ∷ b ∷ cs)
  unfolding shifted add_scaled
  shifted_is α a b [] = ap₂ (λ u v. u ∷ v ∷ []) (simp ring) (simp ring)
  shifted_is α a b (c ∷ cs) = ap (λ l. (a ⊕ α · c) ∷ l) (shifted_is α b c cs)

  raised_is : (α c : ℕ) (cs : List ℕ) → raised F α (c ∷ cs) ≡ add_scaled F α (c ∷ cs) (times_x (c ∷ cs))
  unfolding raised times_linear shifted times_x add_scaled
  raised_is α c [] = ap₂ (λ u v. u ∷ v ∷ []) (sym (zero_⊕ _)) (simp ring)
  raised_is α c (d ∷ cs) =
      ap (λ n. times_linear F α ((c ∷ d ∷ cs) ++ replicate n 0)) (growth_two (length cs)) ∙ ap₂ ◌∷◌ (sym (zero_⊕ _)) (shifted_is α c 0 (d ∷ cs))

  sum_step : (x α v : ℕ) → x · v ⊕ α · v ≡ (x ⊕ α) · v
  sum_step x α v = simp ring

  pub evaluate_raised_some : (α : ℕ) (f : List ℕ) → 0 < length f → (P : Point) → evaluate F (raised F α f) P ≡ (P.x ⊕ α) · evaluate F f P
  evaluate_raised_some α [] h P = absurd (omega arith)
  evaluate_raised_some α (c ∷ cs) h P =
      ap (λ f. evaluate F f P) (raised_is α c cs) ∙ evaluate_add K α (c ∷ cs) _ P
      ∙ ap (λ u. u ⊕ α · evaluate F (c ∷ cs) P) (evaluate_x (c ∷ cs) P) ∙ sum_step P.x α _

  pub evaluate_raised : {l n : ℕ} {f : List ℕ} (α : ℕ) → Lead F l n f → (P : Point) → evaluate F (raised F α f) P ≡ (P.x ⊕ α) · evaluate F f P
  evaluate_raised {l = l} {n = n} {f = []} α t P = elim t [ ]
  evaluate_raised {f = c ∷ cs} α t P = evaluate_raised_some α (c ∷ cs) (omega arith) P

  pub lead_raised : {l n : ℕ} {f : List ℕ} (α : ℕ) → Lead F l n f → (m : ℕ) × (weight m ≡ weight n + 2) × Lead F l m (raised F α f)
  lead_raised {l = l} {n = n} {f = []} α t = elim t [ ]
  lead_raised {l} {n} {f = c ∷ cs} α t =
      let (m, e, v) = lead_x t in
      let heavier : n < m = weight_less n m (omega arith) in
      (m, e, subst (λ f. Lead F l m f) (sym (raised_is α c cs)) (lead_heavy K α (under_le K heavier (lead_under K t)) v))

module _ (F : Arithmetic) (C : Curve) where
  infixl 70 ◌·◌
  open F use {◌·◌}
  open C use {g1, g2, g3, g4, g6}

  abbrev xy : List ℕ
  xy = 0 ∷ 0 ∷ 0 ∷ 0 ∷ 1 ∷ []

  -- Y² on the curve. The factor 1 brings the coefficients below q
  abbrev yy : List ℕ
  yy = 1 · g6 ∷ 1 · g4 ∷ 1 · g3 ∷ 1 · g2 ∷ 1 · g1 ∷ 1 ∷ []

  -- Y·(c₀·X + c₁·Y + X·(c₂·X + c₃·Y + X·(..)))
  unfoldable pub past : List ℕ → List ℕ
  past [] = []
  past (c ∷ []) = add_scaled F c xy []
  past (c ∷ d ∷ cs) = add_scaled F d yy (add_scaled F c xy (times_x (past cs)))

  -- Y·f
  unfoldable pub times_y : List ℕ → List ℕ
  times_y [] = []
  times_y (c ∷ cs) = add_scaled F c (0 ∷ 0 ∷ 1 ∷ []) (past cs)

module _ {F : Arithmetic} (K : Field F) (C : Curve) where
  infixl 70 ◌·◌
  open F use {q, ◌·◌}
  open K use {one_lt, mul_lt, one_mul}
  open C use {g1, g2, g3, g4, g6}

  y_steps : (x y : ℕ) → 0 ⊕ x · (0 ⊕ x · 0) ⊕ y · (1 ⊕ x · 0) ≡ 1 · y
  y_steps x y = simp ring

  evaluate_y : (P : Point) → P.y < q → evaluate F (0 ∷ 0 ∷ 1 ∷ []) P ≡ P.y
  unfolding evaluate horner
  evaluate_y P h = y_steps P.x P.y ∙ one_mul P.y h

  xy_steps : (x y : ℕ) → 0 ⊕ x · (0 ⊕ x · (0 ⊕ x · 0)) ⊕ y · (0 ⊕ x · (1 ⊕ x · 0)) ≡ 1 · (x · y)
  xy_steps x y = simp ring

  evaluate_xy : (P : Point) → evaluate F (xy F C) P ≡ P.x · P.y
  unfolding evaluate horner
  evaluate_xy P = xy_steps P.x P.y ∙ one_mul _ (mul_lt _ _)

  yy_steps : (x y : ℕ) → 1 · g6 ⊕ x · (1 · g4 ⊕ x · (1 · g2 ⊕ x · (1 ⊕ x · 0))) ⊕ y · (1 · g3 ⊕ x · (1 · g1 ⊕ x · 0)) ≡ 1 · (right F C x ⊕ (g1 · (x · y) ⊕ g3 · y))
  yy_steps x y = simp (right, ring)

  squared : (x y : ℕ) → left F C x y ⊕ (g1 · (x · y) ⊕ g3 · y) ≡ y · y
  squared x y = simp (left, ring)

  evaluate_yy : (P : Point) → On F C P → evaluate F (yy F C) P ≡ P.y · P.y
  unfolding evaluate horner
  evaluate_yy P p =
      yy_steps P.x P.y ∙ ap (λ t. 1 · (t ⊕ (g1 · (P.x · P.y) ⊕ g3 · P.y))) (sym p.eqn) ∙ ap (λ t. 1 · t) (squared P.x P.y)
      ∙ one_mul _ (mul_lt _ _)

  empty : (x y : ℕ) → 0 ≡ y · (x · 0 ⊕ y · 0)
  empty x y = simp ring

  first_step : (x y c : ℕ) → 0 ⊕ c · (x · y) ≡ y · (x · (c ⊕ x · 0) ⊕ y · 0)
  first_step x y c = simp ring

  past_step : (x y c d r s : ℕ) → x · (y · (x · r ⊕ y · s)) ⊕ c · (x · y) ⊕ d · (y · y) ≡ y · (x · (c ⊕ x · r) ⊕ y · (d ⊕ x · s))
  past_step x y c d r s = simp ring

  module _ (P : Point) (p : On F C P) where
    evaluate_past : (cs : List ℕ) → evaluate F (past F C cs) P ≡ P.y · (P.x · (horner F P.x cs).0 ⊕ P.y · (horner F P.x cs).1)
    unfolding past horner evaluate
    evaluate_past [] = empty P.x P.y
    evaluate_past (c ∷ []) = evaluate_add K c (xy F C) [] P ∙ ap (λ t. 0 ⊕ c · t) (evaluate_xy P) ∙ first_step P.x P.y c
    evaluate_past (c ∷ d ∷ cs) =
        evaluate_add K d (yy F C) _ P
        ∙ ap₂ (λ u v. u ⊕ d · v)
        (evaluate_add K c (xy F C) _ P ∙ ap₂ (λ u v. u ⊕ c · v) (evaluate_x K _ P ∙ ap (λ t. P.x · t) (evaluate_past cs)) (evaluate_xy P))
        (evaluate_yy P p)
        ∙ past_step P.x P.y c d _ _

    times_y_step : (x y c r s : ℕ) → y · (x · r ⊕ y · s) ⊕ c · y ≡ y · (c ⊕ x · r ⊕ y · s)
    times_y_step x y c r s = simp ring

    pub evaluate_times_y : (f : List ℕ) → evaluate F (times_y F C f) P ≡ P.y · evaluate F f P
    unfolding times_y evaluate
    evaluate_times_y [] = sym (·_zero K _)
    evaluate_times_y (c ∷ cs) =
        evaluate_add K c (0 ∷ 0 ∷ 1 ∷ []) _ P ∙ ap₂ (λ u v. u ⊕ c · v) (evaluate_past cs) (evaluate_y P p.y_lt) ∙ times_y_step P.x P.y c _ _

  one : {c l n : ℕ} {f : List ℕ} → c ≡ l → l < q → Lead F (c · 1) n f → Lead F l n f
  one {c} {l} {n} {f} e h t = subst (λ m. Lead F m n f) (ap (λ c. c · 1) e ∙ mul_one K l h) t

  lead_xy : Lead F 1 4 (xy F C)
  lead_xy = let z = zero_lt K in low z (low z (low z (low z (top refl one_lt))))

  lead_yy : Lead F 1 5 (yy F C)
  lead_yy = low (mul_lt _ _) (low (mul_lt _ _) (low (mul_lt _ _) (low (mul_lt _ _) (low (mul_lt _ _) (top refl one_lt)))))

  lead_y : Lead F 1 2 (0 ∷ 0 ∷ 1 ∷ [])
  lead_y = low (zero_lt K) (low (zero_lt K) (top refl one_lt))

  lead_past : {l n : ℕ} {cs : List ℕ} → Lead F l n cs → (m : ℕ) × (weight m ≡ n + 5) × Lead F l m (past F C cs)
  unfolding past weight times_x
  lead_past (top {c} e h) = (4, refl, one e h (lead_light K c lead_xy none))
  lead_past (low {c = c} h (top {c = d} e k)) =
      (5, refl, one e k (lead_light K d lead_yy (under_add K c (lead_under K lead_xy) none)))
  lead_past (low {c = c} h (low {n = n} {c = d} k t)) =
      let (m, e, v) = lead_past t in
      let (m', e', v') = lead_x K v in
      let i : m' ≡ n + 6 = weight_index m' (n + 6) (omega arith) in
      (m', omega arith, lead_heavy K d (under_le K (omega arith) (lead_under K lead_yy)) (lead_heavy K c (under_le K (omega arith) (lead_under K lead_xy)) v'))

  -- Y weighs 3
  pub lead_times_y : {l n : ℕ} {f : List ℕ} → Lead F l n f → (m : ℕ) × (weight m ≡ weight n + 3) × Lead F l m (times_y F C f)
  unfolding times_y weight past
  lead_times_y (top {c} e h) = (2, refl, one e h (lead_light K c lead_y none))
  lead_times_y (low {n} {c} h t) =
      let (m, e, v) = lead_past t in
      let i : m ≡ n + 4 = weight_index m (n + 4) (omega arith) in
      (m, omega arith, lead_heavy K c (under_le K (omega arith) (lead_under K lead_y)) v)
