-- The functions of k coefficients that are zero at given points: when there is none but 0, and when all are multiples of one.
use Prim.Native.Nat.{ℕ, zero, suc, ◌<◌}
use mathlib.Core.Path.{◌≡◌, refl, sym, ◌∙◌, ap, ap₂, subst}
use mathlib.Core.Logic.{◌⊎◌, inl, inr}
use mathlib.Core.List.{List, [], ◌∷◌, ◌++◌, map, head-eq_of_cons-eq, tail-eq_of_cons-eq}
use native.Mathlib.Omega.{arith}
use lib.ListN.{length}
use Rattle.field.specs.Sum.{◌⊕◌}
use Rattle.field.proofs.Sum.{⊕_self, ⊕_eq}
use Rattle.field.specs.Field.{Arithmetic, Field}
use Rattle.field.proofs.Laws.{ring, mul_one}
use Rattle.elliptic.specs.Curve.{Curve, Point}
use Rattle.elliptic.specs.Functions.{weight}
use Rattle.elliptic.specs.Pair.{evaluate, add_scaled}
use Rattle.elliptic.proofs.Points.{Points, All, All.nil, All.cons, all_map, all_zip}
use Rattle.elliptic.proofs.Weights.{weight_le}
use Rattle.elliptic.proofs.Function.{Under, Under.none, Under.more, Coefficients, Lead, Lead.top, Lead.low, Zero, evaluate_add, evaluate_same, evaluate_lt, under_add, lead_lt, lead_length, lead_under, lead_light, lead_both}
use Rattle.elliptic.proofs.Descent.{Through}
use Rattle.elliptic.proofs.Zeros.{zeros, no_common}
use Rattle.elliptic.proofs.Padding.{Zeros, Trimmed, trim, zeros_snoc, evaluate_pad}

module _ (F : Arithmetic) where
  -- the values at the points
  abbrev pub values : List ℕ → List Point → List ℕ
  values f J = map (evaluate F f) J

  abbrev pub Agree : List ℕ → List ℕ → List Point → Type 0
  Agree f g J = All (λ P. evaluate F f P ≡ evaluate F g P) J

  -- no function of at most k coefficients but 0 is zero at the points
  abbrev pub Independent : ℕ → List Point → Type 0
  Independent k J = (f : List ℕ) → Under F k f → All (Zero F f) J → Zeros f

  -- a function of k + 1 coefficients with leading coefficient 1 that is zero at the points
  pub record Relation (k : ℕ) (J : List Point) (r : List ℕ) : Type 0 where
    pub lead : Lead F 1 k r
    pub zeros : All (Zero F r) J

  pub values_agree : (f g : List ℕ) (J : List Point) → values f J ≡ values g J → Agree f g J
  values_agree f g [] e = nil
  values_agree f g (P ∷ J) e = cons (head-eq_of_cons-eq e) (values_agree f g J (tail-eq_of_cons-eq e))

  pub agree_values : (f g : List ℕ) {J : List Point} → Agree f g J → values f J ≡ values g J
  agree_values f g nil = refl
  agree_values f g (cons h hs) = ap₂ ◌∷◌ h (agree_values f g hs)

module _ {F : Arithmetic} (K : Field F) where
  infixl 70 ◌·◌
  open F use {q, ◌·◌}
  open K use {one_mul, add_lt, mul_lt}

  pub agree_add : (t : ℕ) (h f : List ℕ) {J : List Point} → All (Zero F h) J → Agree F (add_scaled F t h f) f J
  agree_add t h f = all_map (evaluate_same K t h f)

  -- the last of n + 1 coefficients
  pub last : (n : ℕ) (f : List ℕ) {k : ℕ} → Under F k f → length f ≡ suc n → (l : ℕ) × Lead F l n f
  last zero [] u e = absurd (omega arith)
  last zero (c ∷ []) (more h u) e = (c, top refl h)
  last zero (c ∷ d ∷ cs) u e = absurd (omega arith)
  last (suc n) [] u e = absurd (omega arith)
  last (suc n) (c ∷ cs) (more h u) e = let (l, t) = last n cs u (omega arith) in (l, low h t)

  -- the coefficients before it
  front : {l n : ℕ} {f : List ℕ} → Lead F l n f → (g : List ℕ) × Under F n g × (f ≡ g ++ l ∷ [])
  front (top e h) = ([], none, ap (λ c. c ∷ []) e)
  front (low {c = c} h t) = let (g, u, e) = front t in (c ∷ g, more h u, ap (λ f. c ∷ f) e)

  pub lead_only : {l m n : ℕ} {f : List ℕ} → Lead F l n f → Lead F m n f → l ≡ m
  lead_only (top e h) (top g k) = sym e ∙ g
  lead_only (low h t) (low k u) = lead_only t u

  pub lead_zeros : {l n : ℕ} {f : List ℕ} → Lead F l n f → Zeros f → l ≡ 0
  lead_zeros (top e h) (cons z zs) = sym e ∙ z
  lead_zeros (low h t) (cons z zs) = lead_zeros t zs

  -- functions of as many coefficients are equal if their sum is zero
  sum_zeros : {k : ℕ} {g : List ℕ} → Under F k g → (f : List ℕ) → length f ≡ length g → Zeros (add_scaled F 1 g f) → f ≡ g
  unfolding add_scaled
  sum_zeros none [] e z = refl
  sum_zeros none (d ∷ ds) e z = absurd (omega arith)
  sum_zeros (more h u) [] e z = absurd (omega arith)
  sum_zeros (more h u) (d ∷ ds) e (cons w z) = ap₂ ◌∷◌ (⊕_eq w ∙ one_mul _ h) (sum_zeros u ds (omega arith) z)

  -- and their sum is zero where they agree
  sum_zero : {k : ℕ} {J : List Point} (f g : List ℕ) → Under F k g → Agree F f g J → All (Zero F (add_scaled F 1 g f)) J
  sum_zero f g u = all_map (λ P s. evaluate_add K 1 g f P ∙ ap₂ (λ a b. a ⊕ b) s (one_mul _ (evaluate_lt K u P)) ∙ ⊕_self _)

  -- where the points are independent, the values at them decide
  pub known : {k : ℕ} {J : List Point} → Independent F k J → (f g : List ℕ) → Coefficients F k f → Coefficients F k g → Agree F f g J → f ≡ g
  known ind f g u v a =
      sum_zeros v.under f (u.size ∙ sym v.size) (ind (add_scaled F 1 g f) (under_add K 1 v.under u.under) (sum_zero f g v.under a))

  nowhere : (P : Point) → evaluate F [] P ≡ 0
  unfolding evaluate
  nowhere P = refl

  module _ {C : Curve} {J : List Point} (p : Points F C J) where
    pub through : {k : ℕ} {f : List ℕ} (t : Trimmed F k f) → All (Zero F f) J → Through F J t.n t.g
    through t z =
        record {
          l = t.l;
          nonzero = t.nonzero;
          lead = t.lead;
          zeros = all_map (λ P e. sym (evaluate_pad K t.g t.m P) ∙ ap (λ f. evaluate F f P) (sym t.same) ∙ e) z;
        }

    -- more points than coefficients
    pub few : {k : ℕ} → k < length J → Independent F k J
    few {k} h f u z = by (trim K u)
      where
        by : Zeros f ⊎ Trimmed F k f → Zeros f
        by (inl e) = e
        by (inr t) = absurd (omega (arith, zeros K p (through t z), weight_le t.n, t.fits))

    -- as many points as coefficients, and a function that weighs one more
    pub as_many : {n : ℕ} {h : List ℕ} → Through F J n h → weight n ≡ suc (length J) → Independent F (length J) J
    as_many s w f u z = by (trim K u)
      where
        by : Zeros f ⊎ Trimmed F (length J) f → Zeros f
        by (inl e) = e
        by (inr t) =
            let v = through t z in
            let e : weight t.n ≡ length J = omega (arith, zeros K p v, weight_le t.n, t.fits) in
            absurd (no_common K p v s e w)

    module _ {k : ℕ} (n : length J ≡ suc k) where
      -- functions of k + 1 coefficients with the same last one that agree at k + 1 points: their sum has k coefficients
      pub same_last : {l : ℕ} {f g : List ℕ} → Lead F l k f → Lead F l k g → Agree F f g J → f ≡ g
      same_last {l} {f} {g} t s a =
          let sum : Lead F (l ⊕ 1 · l) k (add_scaled F 1 g f) = lead_both K 1 s t in
          let (h, u, split) = front sum in
          let none : l ⊕ 1 · l ≡ 0 = ap (λ m. l ⊕ m) (one_mul l (lead_lt K t)) ∙ ⊕_self l in
          let padded : add_scaled F 1 g f ≡ h ++ 0 ∷ [] = split ∙ ap (λ c. h ++ c ∷ []) none in
          let zero-h : All (Zero F h) J =
          all_map (λ P z. sym (evaluate_pad K h 1 P) ∙ ap (λ f. evaluate F f P) (sym padded) ∙ z) (sum_zero f g (lead_under K s) a) in
          let zs : Zeros (add_scaled F 1 g f) = subst Zeros (sym padded) (zeros_snoc (few (omega arith) h u zero-h) refl) in
          sum_zeros (lead_under K s) f (lead_length K t ∙ sym (lead_length K s)) zs

      -- there is one relation at most
      pub relation_only : {r r' : List ℕ} → Relation F k J r → Relation F k J r' → r ≡ r'
      relation_only a b = same_last a.lead b.lead (all_zip (λ P z w. z ∙ sym w) a.zeros b.zeros)

      -- with a relation r, the functions that are zero at the points are its multiples
      pub multiple : {r f : List ℕ} → Relation F k J r → Coefficients F (suc k) f → All (Zero F f) J → (t : ℕ) × (t < q) × (f ≡ add_scaled F t r [])
      multiple {r} {f} rel u z =
          let (t, lead-f) = last k f u.under u.size in
          let lead : Lead F t k (add_scaled F t r []) =
          subst (λ m. Lead F m k (add_scaled F t r [])) (mul_one K t (lead_lt K lead-f)) (lead_light K t rel.lead none) in
          (t, lead_lt K lead-f, same_last lead-f lead (all_zip (λ P e w. e ∙ sym w) z (all_map (λ P w. w ∙ nowhere P) (agree_add t r [] rel.zeros))))

      -- and those that agree with f are f + t·r: t is the sum of the last coefficients
      pub agreeing : {r f g : List ℕ} → Relation F k J r → Coefficients F (suc k) f → Coefficients F (suc k) g → Agree F g f J
          → (t : ℕ) × (t < q) × (g ≡ add_scaled F t r f)
      agreeing {r} {f} {g} rel u v a =
          let (l, lead-f) = last k f u.under u.size in
          let (m, lead-g) = last k g v.under v.size in
          let t : ℕ = m ⊕ l in
          let t_lt : t < q = add_lt _ _ (lead_lt K lead-g) (lead_lt K lead-f) in
          let top : l ⊕ t · 1 ≡ m = ap (λ s. l ⊕ s) (mul_one K t t_lt) ∙ simp ring in
          let lead : Lead F m k (add_scaled F t r f) = subst (λ m. Lead F m k (add_scaled F t r f)) top (lead_both K t rel.lead lead-f) in
          (t, t_lt, same_last lead-g lead (all_zip (λ P e z. e ∙ sym z) a (agree_add t r f rel.zeros)))
