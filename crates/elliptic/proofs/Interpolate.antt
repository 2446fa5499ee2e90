-- What the state after k − 1 of k points says: they are dependent exactly if L is zero at the last, and then L is the relation;
-- if they are not, the interpolant after k points is the one function of k coefficients that takes the symbols.
use Prim.Native.Nat.{ℕ, suc, ◌+◌, ◌-◌, ◌<◌, ◌≤◌}
use mathlib.Core.Path.{◌≡◌, refl, sym, ◌∙◌, ap₂, subst}
use mathlib.Core.Bool.{cond}
use mathlib.Core.List.{List, [], ◌∷◌}
use native.Mathlib.Nat.{le_refl}
use native.Mathlib.Omega.{arith}
use lib.ListN.{length, get_or}
use borrow.Author.Tests.{ne_eqb}
use Rattle.field.specs.Field.{Arithmetic, Field}
use Rattle.elliptic.specs.Curve.{Curve, Point, point}
use Rattle.elliptic.specs.Functions.{weight}
use Rattle.elliptic.specs.Pair.{State, padded, evaluate, stepped, kept, step, after}
use Rattle.elliptic.proofs.Points.{Points, All, all_of}
use Rattle.elliptic.proofs.Weights.{weight_index}
use Rattle.elliptic.proofs.Function.{Under, Coefficients, Lead, Zero, under_le}
use Rattle.elliptic.proofs.Descent.{Through}
use Rattle.elliptic.proofs.Padding.{padded_coefficients, evaluate_pad}
use Rattle.elliptic.proofs.Kernel.{values, Independent, Relation, values_agree, known, as_many}
use Rattle.elliptic.proofs.Pair.{place, After, upto, stepped_after}
use Rattle.elliptic.proofs.Steps.{weight_least, low_least, low_most, word_fewer, sizes, symbol_lt, after_holds}

-- the values at each place are the values at the points
values_are : (F : Arithmetic) (f : List ℕ) (points : List Point) (symbols : List ℕ) → length symbols ≡ length points
    → ((j : ℕ) → j < length points → evaluate F f (place points j) ≡ get_or symbols j 0) → values F f points ≡ symbols
values_are F f [] [] e h = refl
values_are F f [] (v ∷ symbols) e h = absurd (omega arith)
values_are F f (P ∷ points) [] e h = absurd (omega arith)
values_are F f (P ∷ points) (v ∷ symbols) e h = ap₂ ◌∷◌ (h 0 (omega arith)) (values_are F f points symbols (omega arith) (λ j k. h (suc j) (omega arith)))

-- f has k coefficients and takes the symbols at the points
pub record Takes (F : Arithmetic) (k : ℕ) (points : List Point) (symbols f : List ℕ) : Type 0 where
  pub coefficients : Coefficients F k f
  pub takes : values F f points ≡ symbols

module _ {F : Arithmetic} (K : Field F) {C : Curve} {points : List Point} (p : Points F C points) where
  open F use {q}

  module _ {symbols : List ℕ} (small : All (λ v. v < q) symbols) where
    -- an interpolant of all points, as k coefficients
    padded_takes : {k : ℕ} {s : State} → length symbols ≡ length points → After F points symbols (length points) s → Under F k s.word
        → Takes F k points symbols (padded k s.word)
    padded_takes {k} {s} e a u =
        record {
          coefficients = padded_coefficients K u;
          takes = values_are F (padded k s.word) points symbols e (λ j h. evaluate_pad K s.word (k - length s.word) (place points j) ∙ a.takes j h);
        }

    -- THEOREM: fewer than k points take every symbols by k coefficients
    pub fewer_take : (k : ℕ) → length points < k → length symbols ≡ length points → Takes F k points symbols (padded k (after F points symbols (length points)).word)
    fewer_take k h e =
        let a = after_holds K p small (length points) (le_refl _) in
        padded_takes e a (under_le K (omega arith) (sizes K p a (le_refl _)).word_under)

    -- k is c + 1
    module _ (c : ℕ) (n : length points ≡ suc c) where
      abbrev low : List ℕ
      low = (after F points symbols c).low

      -- THEOREM: L is zero at the last point: it is the relation
      pub by_zero : Zero F low (place points c) → Relation F c points low
      by_zero z =
          let a = after_holds K p small c (omega arith) in
          let zs = upto (λ j. Zero F low (place points j)) a.zero_low z in
          let least : suc c ≤ weight a.m = weight_least K p (suc c) (omega arith) a.lead_low zs in
          let m : a.m ≡ c = weight_index a.m c (omega (arith, low_most K p a)) in
          record {
            lead = subst (λ m. Lead F 1 m low) m a.lead_low;
            zeros = all_of (point 0 0) points (λ j h. zs j (omega arith));
          }

      -- L is not zero there: the next L weighs k + 1
      module _ (z : Zero F low (place points c) → ⊥) where
        last_step : (r : After F points symbols (suc c) (after F points symbols (suc c))) × (c + 2 ≤ weight r.m)
        unfolding after step
        last_step =
            let s : State = after F points symbols c in
            let P : Point = place points c in
            let v : ℕ = get_or symbols c 0 in
            let a = after_holds K p small c (omega arith) in
            subst (λ b. (r : After F points symbols (suc c) (cond b (kept F P v s) (stepped F P v s))) × (c + 2 ≤ weight r.m)) (sym (ne_eqb _ 0 z))
            (stepped_after K points symbols c s a (symbol_lt K p small c) z
            (low_least K p a (omega arith)))

        -- THEOREM: the points are independent
        pub by_nonzero : Independent F (suc c) points
        by_nonzero =
            let (a, w) = last_step in
            let through : Through F points a.m (after F points symbols (suc c)).low =
            record {
              l = 1;
              nonzero = λ e. omega arith;
              lead = a.lead_low;
              zeros = all_of (point 0 0) points (λ j h. a.zero_low j (omega arith));
            } in
            subst (λ k. Independent F k points) n
            (as_many K p through (omega (arith, w, low_most K p a)))

        -- THEOREM: the interpolant takes the symbols with k coefficients
        pub interpolant : length symbols ≡ suc c → Takes F (suc c) points symbols (padded (suc c) (after F points symbols (suc c)).word)
        interpolant e =
            let (a, w) = last_step in
            let heavy : weight a.m ≡ suc c + 1 = omega (arith, w, low_most K p a) in
            let a' : After F points symbols (length points) (after F points symbols (suc c)) =
            subst (λ i. After F points symbols i (after F points symbols (suc c))) (sym n) a in
            padded_takes (e ∙ sym n) a' (word_fewer K p a heavy)

        -- THEOREM: and no other function does
        pub interpolant_only : length symbols ≡ suc c → {g : List ℕ} → Takes F (suc c) points symbols g → g ≡ padded (suc c) (after F points symbols (suc c)).word
        interpolant_only e {g} t =
            let f : List ℕ = padded (suc c) (after F points symbols (suc c)).word in
            let i = interpolant e in
            known K by_nonzero g f t.coefficients i.coefficients (values_agree F g f points (t.takes ∙ sym i.takes))
