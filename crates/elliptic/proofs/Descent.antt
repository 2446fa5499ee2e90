-- THEOREM C: two functions that are zero at the same s different points of a curve, and whose weights have an odd sum, weigh at least 2s + 3 together.
use Prim.Native.Nat.{ℕ, zero, suc, ◌+◌, ◌-◌, ◌<◌, ◌≤◌}
use mathlib.Core.Path.{◌≡◌, sym, ◌∙◌, ap, subst}
use mathlib.Core.Logic.{◌⊎◌, inl, inr}
use mathlib.Core.List.{List, [], ◌∷◌}
use native.Mathlib.Omega.{arith}
use native.Mathlib.Nat.{le_refl, le_of_suc-le-suc, not-suc-le-zero}
use native.Mathlib.Decide.{ℕ_discrete, dec_lt}
use lib.ListN.{length}
use Rattle.field.specs.Sum.{◌⊕◌}
use Rattle.field.proofs.Sum.{⊕_self, ⊕_eq}
use Rattle.field.specs.Field.{Arithmetic, Field}
use Rattle.field.proofs.Laws.{no_zero_div}
use Rattle.elliptic.specs.Functions.{weight}
use Rattle.elliptic.specs.Curve.{Curve, Point, point}
use Rattle.elliptic.specs.Pair.{add_scaled}
use Rattle.elliptic.proofs.Points.{On, Points, All, All.nil, All.cons, Distinct, Distinct.cons, Away, Over, all_zip, all_head, all_tail, pick_length, pick_all, pick_distinct, find}
use Rattle.elliptic.proofs.Weights.{odd_sum}
use Rattle.elliptic.proofs.Function.{Under, Lead, Zero, slope, evaluate_same, slope_add, evaluate_slope, slope_lt, quotient_times, under_le, lead_under, lead_heavy}
use Rattle.elliptic.proofs.Conjugate.{past_both}
use Rattle.elliptic.proofs.Quotient.{quotient, zero_quotient, lead_quotient}

-- f is zero at the points of J, and its leading coefficient, at index n, is not zero
pub record Through (F : Arithmetic) (J : List Point) (n : ℕ) (f : List ℕ) : Type 0 where
  pub l : ℕ
  pub nonzero : l ≡ 0 → ⊥
  pub lead : Lead F l n f
  pub zeros : All (Zero F f) J

-- two such functions, whose weights have an odd sum
pub record Both (F : Arithmetic) (C : Curve) (J : List Point) (n m : ℕ) (f h : List ℕ) : Type 0 where
  pub points : Points F C J
  pub first : Through F J n f
  pub second : Through F J m h
  pub k : ℕ
  pub odd : weight n + weight m ≡ k + k + 1

abbrev Bound : List Point → ℕ → ℕ → Type 0
Bound J n m = length J + length J + 3 ≤ weight n + weight m

module _ {F : Arithmetic} (K : Field F) (C : Curve) where
  infixl 70 ◌·◌
  open F use {q, ◌·◌, inv}
  open K use {add_lt, mul_lt}

  through : {J J' : List Point} {n : ℕ} {f : List ℕ} → Through F J n f → All (Zero F f) J' → Through F J' n f
  through t z = record { l = t.l; nonzero = t.nonzero; lead = t.lead; zeros = z }

  through_tail : {P : Point} {J : List Point} {n : ℕ} {f : List ℕ} → Through F (P ∷ J) n f → Through F J n f
  through_tail t = through t (all_tail t.zeros)

  turned : {J : List Point} {n m : ℕ} {f h : List ℕ} → Both F C J n m f h → Both F C J m n h f
  turned b = record { points = b.points; first = b.second; second = b.first; k = b.k; odd = omega arith }

  -- the quotient of f by X + α, where f is zero at P = (α, β) and its b at α
  divide : (P : Point) {J : List Point} {n : ℕ} (f : List ℕ) → On F C P → All (On F C) J → Away P.x J
      → Zero F f P → slope F f P.x ≡ 0 → Through F J n f → (m : ℕ) × (weight n ≡ weight m + 2) × Through F J m (quotient F P.x f)
  divide P f p on away z s t =
      let (m, e, v) = lead_quotient K P t.nonzero t.lead z s in
      (m, e, record { l = t.l; nonzero = t.nonzero; lead = v; zeros = zeros (lead_under K v) on away t.zeros })
    where
      zeros : {k : ℕ} {J : List Point} → Under F k (quotient F P.x f) → All (On F C) J → Away P.x J → All (Zero F f) J → All (Zero F (quotient F P.x f)) J
      zeros u nil nil nil = nil
      zeros u (cons {a = R} o os) (cons n ns) (cons w ws) = cons (zero_quotient K f P z s R p.x_lt o.x_lt n u w) (zeros u os ns ws)

  -- a function that is zero at the two points over α: its b is zero at α
  flat : (f : List ℕ) (P Q : Point) {n : ℕ} → Under F n f → On F C P → On F C Q → Q.x ≡ P.x → (P.y ≡ Q.y → ⊥)
      → Zero F f P → Zero F f Q → slope F f P.x ≡ 0
  flat f P Q u p o e n z w =
      let at-Q : Zero F f (point P.x Q.y) = subst (λ x. Zero F f (point x Q.y)) e w in
      let step : 0 ⊕ (P.y ⊕ Q.y) · slope F f P.x ≡ 0 =
      ap (λ t. t ⊕ (P.y ⊕ Q.y) · slope F f P.x) (sym at-Q) ∙ sym (evaluate_slope K f P.x P.y Q.y) ∙ z in
      no_zero_div K _ _ (add_lt _ _ p.y_lt o.y_lt) (slope_lt K u P.x) (λ s. n (⊕_eq s)) (sym (⊕_eq step))

  -- By induction on s: the first point, and another one over the same X where there is one, is taken out, and the functions are divided by X + α.
  abbrev Claim : ℕ → Type 0
  Claim N = (J : List Point) (n m : ℕ) (f h : List ℕ) → length J ≤ N → Both F C J n m f h → Bound J n m

  module _ (N : ℕ) (ih : Claim N) (P : Point) (J : List Point) (fits : length J ≤ N) where
    -- no other point lies over α, and f is a multiple of X + α
    divided : (n m : ℕ) (f h : List ℕ) → Away P.x J → Both F C (P ∷ J) n m f h → slope F f P.x ≡ 0 → Bound (P ∷ J) n m
    divided n m f h away b s =
        let (n', e, t) = divide P f (all_head b.points.on) (all_tail b.points.on) away (all_head b.first.zeros) s (through_tail b.first) in
        let b' : Both F C J n' m (quotient F P.x f) h =
        record {
          points = record { distinct = elim b.points.distinct [ cons d ds ↦ ds ]; on = all_tail b.points.on };
          first = t;
          second = through_tail b.second;
          k = b.k - 1;
          odd = omega (arith, b.odd, e);
        } in
        omega (arith, ih J n' m _ h fits b', e)

    -- the lighter function, times a factor, is added to the heavier one, which makes that a multiple of X + α
    reduced : (n m : ℕ) (f h : List ℕ) → Away P.x J → Both F C (P ∷ J) n m f h → m < n → (slope F h P.x ≡ 0 → ⊥) → Bound (P ∷ J) n m
    reduced n m f h away b lt s =
        let ρ : ℕ = slope F f P.x in
        let σ : ℕ = slope F h P.x in
        let t : ℕ = ρ · inv σ in
        let uf = lead_under K b.first.lead in
        let uh = lead_under K b.second.lead in
        let none : slope F (add_scaled F t h f) P.x ≡ 0 =
        slope_add K t h f P.x ∙ ap (λ s. ρ ⊕ s) (quotient_times K ρ σ (slope_lt K uf P.x) (slope_lt K uh P.x) s) ∙ ⊕_self ρ in
        divided n m (add_scaled F t h f) h away
        (record {
          points = b.points;
          first =
              record {
                l = b.first.l;
                nonzero = b.first.nonzero;
                lead = lead_heavy K t (under_le K lt uh) b.first.lead;
                zeros = all_zip (λ Q z w. evaluate_same K t h f Q w ∙ z) b.first.zeros b.second.zeros;
              };
          second = b.second;
          k = b.k;
          odd = b.odd;
        })
        none

    alone : (n m : ℕ) (f h : List ℕ) → Away P.x J → Both F C (P ∷ J) n m f h → Bound (P ∷ J) n m
    alone n m f h away b = by (ℕ_discrete (slope F f P.x) 0) (ℕ_discrete (slope F h P.x) 0) (dec_lt m n) (dec_lt n m)
      where
        by : Dec (slope F f P.x ≡ 0) → Dec (slope F h P.x ≡ 0) → Dec (m < n) → Dec (n < m) → Bound (P ∷ J) n m
        by (yes s) t c d = divided n m f h away b s
        by (no s) (yes t) c d = omega (arith, divided m n h f away (turned b) t)
        by (no s) (no t) (yes c) d = reduced n m f h away b c t
        by (no s) (no t) (no c) (yes d) = omega (arith, reduced m n h f away (turned b) d s)
        by (no s) (no t) (no c) (no d) = let e : n ≡ m = omega arith in absurd (omega (arith, ap weight e, b.odd))

    -- another point lies over α: both functions are multiples of X + α
    paired : (n m : ℕ) (f h : List ℕ) → Over P.x J → Both F C (P ∷ J) n m f h → Bound (P ∷ J) n m
    paired n m f h o b = by b.points.distinct
      where
        by : Distinct (P ∷ J) → Bound (P ∷ J) n m
        by (cons d ds) =
            let dP = pick_all o.pick d in
            let dQ = pick_distinct o.pick ds in
            let on-P = all_head b.points.on in
            let on = pick_all o.pick (all_tail b.points.on) in
            let differ = dP.0 (sym o.over) in
            let away = past_both K C on-P on.0 (sym o.over) differ on.1 dP.1 dQ.0 in
            let part : (n : ℕ) (f : List ℕ) → Through F (P ∷ J) n f → (m : ℕ) × (weight n ≡ weight m + 2) × Through F o.J' m (quotient F P.x f) =
            λ n f t.
            let z = pick_all o.pick (all_tail t.zeros) in
            divide P f on-P on.1 away (all_head t.zeros)
            (flat f P o.Q (lead_under K t.lead) on-P on.0 o.over differ (all_head t.zeros) z.0)
            (through t z.1) in
            let (n', e, t) = part n f b.first in
            let (m', g, s) = part m h b.second in
            let b' : Both F C o.J' n' m' (quotient F P.x f) (quotient F P.x h) =
            record { points = record { distinct = dQ.1; on = on.1 }; first = t; second = s; k = b.k - 2; odd = omega (arith, b.odd, e, g) } in
            let len = pick_length o.pick in
            omega (arith, ih o.J' n' m' _ _ (omega arith) b', e, g)

    step : (n m : ℕ) (f h : List ℕ) → Both F C (P ∷ J) n m f h → Bound (P ∷ J) n m
    step n m f h b = by (find P.x J)
      where
        by : Away P.x J ⊎ Over P.x J → Bound (P ∷ J) n m
        by (inl away) = alone n m f h away b
        by (inr o) = paired n m f h o b

  descent_to : (N : ℕ) → Claim N
  descent_to zero [] n m f h fits b = odd_sum n m b.k b.odd
  descent_to zero (P ∷ J) n m f h fits b = absurd (not-suc-le-zero fits)
  descent_to (suc N) [] n m f h fits b = odd_sum n m b.k b.odd
  descent_to (suc N) (P ∷ J) n m f h fits b = step N (descent_to N) P J (le_of_suc-le-suc fits) n m f h b

  -- THEOREM C
  pub descent : {J : List Point} {n m : ℕ} {f h : List ℕ} → Both F C J n m f h → length J + length J + 3 ≤ weight n + weight m
  descent b = descent_to _ _ _ _ _ _ (le_refl _) b
