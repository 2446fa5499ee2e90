-- Zeros after the coefficients of a function change no value: they can be added, to a given length, or taken away.
use Prim.Native.Nat.{ℕ, zero, suc, ◌-◌, ◌<◌, ◌≤◌, zero-le, suc-le-suc}
use mathlib.Core.Path.{◌≡◌, refl, ◌∙◌, ap, ap₂}
use mathlib.Core.Logic.{◌⊎◌, inl, inr}
use mathlib.Core.List.{List, [], ◌∷◌, ◌++◌}
use native.Mathlib.Numerals.{unary_clauses}
use native.Mathlib.Omega.{arith}
use native.Mathlib.Decide.{ℕ_discrete}
use lib.ListN.{length, replicate, length-append, length-replicate}
use Rattle.field.specs.Sum.{◌⊕◌}
use Rattle.field.specs.Field.{Arithmetic, Field}
use Rattle.field.proofs.Laws.{ring, zero_lt}
use Rattle.elliptic.specs.Curve.{Point}
use Rattle.elliptic.specs.Pair.{padded, horner, evaluate}
use Rattle.elliptic.proofs.Points.{All, All.nil, All.cons}
use Rattle.elliptic.proofs.Function.{Under, Under.none, Under.more, Coefficients, Lead, Lead.top, Lead.low}

-- every coefficient is zero
abbrev pub Zeros : List ℕ → Type 0
Zeros f = All (λ c. c ≡ 0) f

pub zeros_replicate : {f : List ℕ} → Zeros f → f ≡ replicate (length f) 0
zeros_replicate nil = refl
zeros_replicate (cons e z) = ap₂ ◌∷◌ e (zeros_replicate z)

pub zeros_snoc : {f : List ℕ} {c : ℕ} → Zeros f → c ≡ 0 → Zeros (f ++ c ∷ [])
zeros_snoc nil e = cons e nil
zeros_snoc (cons h z) e = cons h (zeros_snoc z e)

-- f is g with m zeros after it; the last coefficient of g is l, which is not zero, at index n below k
pub record Trimmed (F : Arithmetic) (k : ℕ) (f : List ℕ) : Type 0 where
  pub l : ℕ
  pub n : ℕ
  pub m : ℕ
  pub g : List ℕ
  pub nonzero : l ≡ 0 → ⊥
  pub fits : n < k
  pub lead : Lead F l n g
  pub same : f ≡ g ++ replicate m 0

module _ {F : Arithmetic} (K : Field F) where
  infixl 70 ◌·◌
  open F use {q, ◌·◌}

  zero_step : (x : ℕ) → 0 ⊕ x · 0 ≡ 0
  zero_step x = simp ring

  horner_zeros : (x m : ℕ) → horner F x (replicate m 0) ≡ (0, 0)
  unfolding horner
  horner_zeros x zero = refl
  horner_zeros x (suc m) = ap (λ h. (0 ⊕ x · h.1, h.0)) (horner_zeros x m) ∙ ap (λ t. (t, 0)) (zero_step x)

  horner_pad : (x : ℕ) (f : List ℕ) (m : ℕ) → horner F x (f ++ replicate m 0) ≡ horner F x f
  unfolding horner
  horner_pad x [] m = horner_zeros x m
  horner_pad x (c ∷ cs) m = ap (λ h. (c ⊕ x · h.1, h.0)) (horner_pad x cs m)

  zero_steps : (x y : ℕ) → 0 ⊕ x · 0 ⊕ y · 0 ≡ 0
  zero_steps x y = simp ring

  pub evaluate_pad : (f : List ℕ) (m : ℕ) (P : Point) → evaluate F (f ++ replicate m 0) P ≡ evaluate F f P
  unfolding evaluate
  evaluate_pad [] zero P = refl
  evaluate_pad [] (suc m) P = ap (λ h. 0 ⊕ P.x · h.0 ⊕ P.y · h.1) (horner_zeros P.x m) ∙ zero_steps P.x P.y
  evaluate_pad (c ∷ cs) m P = ap (λ h. c ⊕ P.x · h.0 ⊕ P.y · h.1) (horner_pad P.x cs m)

  pub under_length : {k : ℕ} {f : List ℕ} → Under F k f → length f ≤ k
  under_length none = zero-le
  under_length (more h u) = suc-le-suc (under_length u)

  under_zeros : (k : ℕ) → Under F k (replicate k 0)
  under_zeros zero = none
  under_zeros (suc k) = more (zero_lt K) (under_zeros k)

  under_padded : {k : ℕ} {f : List ℕ} → Under F k f → Under F k (padded k f)
  under_padded (none {n}) = simp unary_clauses (under_zeros n)
  under_padded (more h u) = simp unary_clauses (more h (under_padded u))

  pub padded_coefficients : {k : ℕ} {f : List ℕ} → Under F k f → Coefficients F k (padded k f)
  padded_coefficients {k} {f} u =
      record { under = under_padded u; size = length-append f _ ∙ omega (arith, under_length u, length-replicate {A = ℕ} (k - length f) 0) }

  pub trim : {k : ℕ} {f : List ℕ} → Under F k f → Zeros f ⊎ Trimmed F k f
  trim none = inl nil
  trim (more {c = c} h u) = by h (ℕ_discrete c 0) (trim u)
    where
      by : {k c : ℕ} {f : List ℕ} → c < q → Dec (c ≡ 0) → Zeros f ⊎ Trimmed F k f → Zeros (c ∷ f) ⊎ Trimmed F (suc k) (c ∷ f)
      by h (yes e) (inl z) = inl (cons e z)
      by {c = c} {f} h (no n) (inl z) =
          inr (record { l = c; n = 0; m = length f; g = c ∷ []; nonzero = n; fits = omega arith; lead = top refl h; same = ap (λ l. c ∷ l) (zeros_replicate z) })
      by {c = c} h d (inr t) =
          inr (record { l = t.l; n = suc t.n; m = t.m; g = c ∷ t.g; nonzero = t.nonzero; fits = suc-le-suc t.fits; lead = low h t.lead; same = ap (λ l. c ∷ l) t.same })
