-- A function's value, leading coefficient and weighted degree by their definitions, from its coefficients and where they lead.
use Prim.Native.Nat.{ℕ, zero, suc, ◌+◌, ◌≤◌, max, zero-le}
use mathlib.Core.Path.{◌≡◌, refl, sym, ◌∙◌, ap, ap₂, subst}
use mathlib.Core.Bool.{Bool, true, false, not, cond, ◌||◌}
use mathlib.Core.List.{List, [], ◌∷◌}
use native.Mathlib.Nat.{add-zero, zero-add, max-zero, max-eq_right, max-le}
use native.Mathlib.Omega.{arith}
use lib.Dec.{eqb}
use lib.ListN.{length}
use borrow.Author.Tests.{eqb-true, eq-eqb, ne_eqb}
use Rattle.field.specs.Sum.{◌⊕◌}
use Rattle.field.proofs.Sum.{⊕_assoc}
use Rattle.field.specs.Field.{Arithmetic, Field}
use Rattle.field.proofs.Laws.{ring, mul_one}
use Rattle.elliptic.specs.Curve.{Point}
use Rattle.elliptic.specs.Functions.{weight, nonzero, leading, degree_from, degree, monomial, sum_from, value}
use Rattle.elliptic.specs.Pair.{horner, evaluate}
use Rattle.elliptic.proofs.Points.{All.nil, All.cons}
use Rattle.elliptic.proofs.Function.{Under, Under.none, Under.more, Lead, Lead.top, Lead.low}
use Rattle.elliptic.proofs.Padding.{Zeros}

-- ---- the value

module _ {F : Arithmetic} (K : Field F) where
  infixl 70 ◌·◌
  open F use {◌·◌}

  no_terms : (u v : ℕ) → 0 ≡ u · 0 ⊕ v · 0
  no_terms u v = simp ring

  sum_step : (x u v c r s : ℕ) → c · u ⊕ (v · r ⊕ x · u · s) ≡ u · (c ⊕ x · s) ⊕ v · r
  sum_step x u v c r s = simp ring

  sum_horner : (i : ℕ) (cs : List ℕ) (P : Point)
      → sum_from F (suc i) cs P ≡ monomial F (suc i) P · (horner F P.x cs).0 ⊕ monomial F (suc (suc i)) P · (horner F P.x cs).1
  unfolding sum_from monomial horner
  sum_horner i [] P = no_terms _ _
  sum_horner i (c ∷ cs) P =
      ap (λ t. c · monomial F (suc i) P ⊕ t) (sum_horner (suc i) cs P) ∙ sum_step P.x (monomial F (suc i) P) (monomial F (suc (suc i)) P) c _ _

  -- the sum of coefficient times monomial is what Horner's rule gives
  pub value_evaluate : {n : ℕ} {f : List ℕ} → Under F n f → (P : Point) → value F f P ≡ evaluate F f P
  unfolding value sum_from monomial evaluate
  value_evaluate none P = refl
  value_evaluate (more {c = c} {cs = cs} h u) P = ap₂ ◌⊕◌ (mul_one K c h) (sum_horner 0 cs P) ∙ sym (⊕_assoc c _ _)

-- ---- the leading coefficient, and whether there is one

pub nonzero_false : {f : List ℕ} → Zeros f → nonzero f ≡ false
unfolding nonzero
nonzero_false nil = refl
nonzero_false (cons {a = c} {l = cs} e z) = ap₂ (λ b d. not b || d) (eq-eqb c 0 e) (nonzero_false z)

pub false_nonzero : (f : List ℕ) → nonzero f ≡ false → Zeros f
unfolding nonzero
false_nonzero [] e = nil
false_nonzero (c ∷ cs) e = by (eqb c 0) refl e (false_nonzero cs)
  where
    by : (b : Bool) → eqb c 0 ≡ b → ◌≡◌ {A = Bool} (not b || nonzero cs) false → (nonzero cs ≡ false → Zeros cs) → Zeros (c ∷ cs)
    by true h e r = cons (eqb-true c 0 h) (r e)
    by false h e r = let n : ◌≡◌ {A = ℕ} 0 1 = ap (λ b. cond b 0 1) e in absurd (omega arith)

zero_cond : (b : Bool) {c r : ℕ} → c ≡ 0 → r ≡ 0 → cond b c r ≡ 0
zero_cond true e f = e
zero_cond false e f = f

pub zeros_leading : {f : List ℕ} → Zeros f → leading f ≡ 0
unfolding leading
zeros_leading nil = refl
zeros_leading (cons {l = cs} e z) = zero_cond (eqb (leading cs) 0) e (zeros_leading z)

pub lead_leading : {F : Arithmetic} {l n : ℕ} {f : List ℕ} → Lead F l n f → (l ≡ 0 → ⊥) → leading f ≡ l
unfolding leading
lead_leading (top e h) n = e
lead_leading {l = l} (low {c = c} {cs = cs} h t) n = by (eqb (leading cs) 0) refl (lead_leading t n)
  where
    by : (b : Bool) → eqb (leading cs) 0 ≡ b → leading cs ≡ l → cond b c (leading cs) ≡ l
    by true h e = absurd (n (sym e ∙ eqb-true (leading cs) 0 h))
    by false h e = e

-- ---- the weighted degree

lighter : (b : Bool) (i j : ℕ) → i ≤ j → cond b 0 (weight i) ≤ weight j
unfolding weight
lighter true i j h = zero-le
lighter false zero j h = zero-le
lighter false (suc i) zero h = absurd (omega arith)
lighter false (suc i) (suc j) h = omega arith

next : (i n : ℕ) → suc i + n ≡ i + suc n
next i n = omega arith

degree_from_lem : {F : Arithmetic} {l n : ℕ} {f : List ℕ} → Lead F l n f → (l ≡ 0 → ⊥) → (i : ℕ) → degree_from i f ≡ weight (i + n)
unfolding degree_from
degree_from_lem (top {c} e h) z i = ap (λ b. max (cond b 0 (weight i)) 0) (ne_eqb c 0 (λ n. z (sym e ∙ n))) ∙ max-zero _ ∙ ap weight (sym (add-zero i))
degree_from_lem (low {n} {c} h t) z i =
    ap (λ d. max (cond (eqb c 0) 0 (weight i)) d) (degree_from_lem t z (suc i))
    ∙ max-eq_right (lighter (eqb c 0) i (suc i + n) (omega arith))
    ∙ ap weight (next i n)

-- a function that leads at index n has the degree of the monomial there
pub lead_degree : {F : Arithmetic} {l n : ℕ} {f : List ℕ} → Lead F l n f → (l ≡ 0 → ⊥) → degree f ≡ weight n
unfolding degree
lead_degree {n = n} t z = degree_from_lem t z 0 ∙ ap weight (zero-add n)

degree_from_most : (i n : ℕ) (f : List ℕ) → length f ≡ suc n → degree_from i f ≤ weight (i + n)
unfolding degree_from
degree_from_most i n [] e = absurd (omega arith)
degree_from_most i zero (c ∷ []) e = max-le (lighter (eqb c 0) i (i + 0) (omega arith)) zero-le
degree_from_most i zero (c ∷ d ∷ cs) e = absurd (omega arith)
degree_from_most i (suc n) (c ∷ cs) e =
    max-le (lighter (eqb c 0) i (i + suc n) (omega arith)) (subst (λ j. degree_from (suc i) cs ≤ weight j) (next i n) (degree_from_most (suc i) n cs (omega arith)))

-- n + 1 coefficients have at most the weight of the last
pub degree_most : (n : ℕ) (f : List ℕ) → length f ≡ suc n → degree f ≤ weight n
unfolding degree
degree_most n f e = subst (λ j. degree_from 0 f ≤ weight j) (zero-add n) (degree_from_most 0 n f e)
