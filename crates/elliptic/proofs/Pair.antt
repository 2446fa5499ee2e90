-- What holds of the pair and the interpolant after the first i points of a list, and that a step keeps it.
use Prim.Native.Nat.{ℕ, suc, ◌+◌, ◌-◌, ◌<◌, ◌≤◌}
use mathlib.Core.Path.{◌≡◌, refl, sym, ◌∙◌, ap, subst}
use mathlib.Core.Bool.{Bool}
use mathlib.Core.List.{List}
use native.Mathlib.Omega.{arith}
use native.Mathlib.Decide.{dec_lt}
use lib.Dec.{ltb}
use lib.ListN.{length, get_or}
use borrow.Author.Tests.{lt-ltb, le-ltb}
use Rattle.field.specs.Sum.{◌⊕◌}
use Rattle.field.proofs.Sum.{⊕_self}
use Rattle.field.specs.Field.{Arithmetic, Field}
use Rattle.field.proofs.Laws.{ring, zero_lt, ·_zero}
use Rattle.elliptic.specs.Curve.{Point, point}
use Rattle.elliptic.specs.Functions.{weight}
use Rattle.elliptic.specs.Pair.{evaluate, raised, State, held, start, corrected, cancelled, stepped, kept}
use Rattle.elliptic.proofs.Weights.{weight_lt, weight_less, index_two}
use Rattle.elliptic.proofs.Function.{Under, Under.none, Lead, Lead.top, Lead.low, Zero}
use Rattle.elliptic.proofs.Function.{evaluate_add, evaluate_same, evaluate_lt, quotient_times, under_le, under_add, lead_under, lead_length, lead_heavy}
use Rattle.elliptic.proofs.Products.{evaluate_raised, lead_raised}

-- the point at a place
abbrev pub place : List Point → ℕ → Point
place points i = get_or points i (point 0 0)

-- L and U are zero at the first i points and have leading coefficient 1, at indices m and n, and weights that add up to 2i + 3;
-- the interpolant takes the symbols at these points
pub record After (F : Arithmetic) (points : List Point) (symbols : List ℕ) (i : ℕ) (s : State) : Type 0 where
  pub m : ℕ
  pub n : ℕ
  pub lead_low : Lead F 1 m s.low
  pub lead_high : Lead F 1 n s.high
  pub lighter : m < n
  pub sum : weight m + weight n ≡ i + i + 3
  pub zero_low : (j : ℕ) → j < i → Zero F s.low (place points j)
  pub zero_high : (j : ℕ) → j < i → Zero F s.high (place points j)
  pub few : Under F (n - 1) s.word
  pub takes : (j : ℕ) → j < i → evaluate F s.word (place points j) ≡ get_or symbols j 0

-- what holds below i, and at i
pub upto : (Q : ℕ → Type 0) {i : ℕ} → ((j : ℕ) → j < i → Q j) → Q i → (j : ℕ) → j < suc i → Q j
upto Q {i} h q j lt = by (dec_lt j i)
  where
    by : Dec (j < i) → Q j
    by (yes k) = h j k
    by (no k) = let e : i ≡ j = omega arith in subst Q e q

module _ {F : Arithmetic} (K : Field F) where
  infixl 70 ◌·◌
  open F use {q, ◌·◌, inv}
  open K use {one_lt, add_lt}

  sum_back : (a v : ℕ) → a ⊕ (v ⊕ a) ≡ v
  sum_back a v = simp ring

  -- the multiple of g that is added makes the value at P v
  corrected_there : {k l : ℕ} (v : ℕ) (g f : List ℕ) (P : Point) → v < q → Under F k g → Under F l f → (Zero F g P → ⊥)
      → evaluate F (corrected F P v g f) P ≡ v
  unfolding corrected
  corrected_there v g f P h u w n =
      let a : ℕ = evaluate F f P in
      evaluate_add K _ g f P
      ∙ ap (λ t. a ⊕ t) (quotient_times K (v ⊕ a) (evaluate F g P) (add_lt _ _ h (evaluate_lt K w P)) (evaluate_lt K u P) n) ∙ sum_back a v

  pub start_after : (points : List Point) (symbols : List ℕ) → After F points symbols 0 start
  unfolding weight
  start_after points symbols =
      record {
        m = 0;
        n = 2;
        lead_low = top refl one_lt;
        lead_high = low (zero_lt K) (low (zero_lt K) (top refl one_lt));
        lighter = omega arith;
        sum = refl;
        zero_low = λ j h. absurd (omega arith);
        zero_high = λ j h. absurd (omega arith);
        few = none;
        takes = λ j h. absurd (omega arith);
      }

  module _ (points : List Point) (symbols : List ℕ) (i : ℕ) (s : State) (a : After F points symbols i s) (small : get_or symbols i 0 < q) where
    abbrev P : Point
    P = place points i

    abbrev v : ℕ
    v = get_or symbols i 0

    -- (X + α)·g is zero where g is, and at P
    raised_zero : {n : ℕ} (g : List ℕ) → Lead F 1 n g → ((j : ℕ) → j < i → Zero F g (place points j))
        → (j : ℕ) → j < suc i → Zero F (raised F P.x g) (place points j)
    raised_zero g t z =
        upto (λ j. Zero F (raised F P.x g) (place points j))
        (λ j h. evaluate_raised K P.x t (place points j) ∙ ap (λ v. ((place points j).x ⊕ P.x) · v) (z j h) ∙ ·_zero K _)
        (evaluate_raised K P.x t P ∙ simp ring)

    -- the corrected interpolant takes the symbols at i + 1 places
    corrected_takes : {n : ℕ} (g : List ℕ) → Under F n g → ((j : ℕ) → j < i → Zero F g (place points j)) → (Zero F g P → ⊥)
        → (j : ℕ) → j < suc i → evaluate F (corrected F P v g s.word) (place points j) ≡ get_or symbols j 0
    unfolding corrected
    corrected_takes g u z n =
        upto (λ j. evaluate F (corrected F P v g s.word) (place points j) ≡ get_or symbols j 0)
        (λ j h. evaluate_same K _ g s.word (place points j) (z j h) ∙ a.takes j h)
        (corrected_there v g s.word P small u a.few n)

    -- L is zero at P, and U is not
    pub kept_after : Zero F s.low P → (Zero F s.high P → ⊥) → After F points symbols (suc i) (kept F P v s)
    unfolding kept corrected
    kept_after z w =
        let (n', e, t) = lead_raised K P.x a.lead_high in
        let lighter : a.m < n' = weight_less a.m n' (omega (arith, weight_lt a.m a.n a.lighter)) in
        let above : a.n < n' = weight_less a.n n' (omega arith) in
        let further : a.n + 2 ≤ n' = index_two a.n n' e (omega arith) in
        record {
          m = a.m;
          n = n';
          lead_low = a.lead_low;
          lead_high = t;
          lighter = lighter;
          sum = omega (arith, a.sum);
          zero_low = upto (λ j. Zero F s.low (place points j)) a.zero_low z;
          zero_high = raised_zero s.high a.lead_high a.zero_high;
          few = under_add K _ (under_le K (omega arith) (lead_under K a.lead_high)) (under_le K (omega arith) a.few);
          takes = corrected_takes s.high (lead_under K a.lead_high) a.zero_high w;
        }

    -- L is not zero at P. The new L weighs i + 2
    module _ (z : Zero F s.low P → ⊥) (least : i ≤ weight a.m) where
      cancelled_lead : Lead F 1 a.n (cancelled F P s.low s.high)
      unfolding cancelled
      cancelled_lead = lead_heavy K _ (under_le K a.lighter (lead_under K a.lead_low)) a.lead_high

      cancelled_zero : (j : ℕ) → j < suc i → Zero F (cancelled F P s.low s.high) (place points j)
      unfolding cancelled
      cancelled_zero =
          upto (λ j. Zero F (cancelled F P s.low s.high) (place points j))
          (λ j h. evaluate_same K _ s.low s.high (place points j) (a.zero_low j h) ∙ a.zero_high j h)
          (evaluate_add K _ s.low s.high P
          ∙ ap (λ t. evaluate F s.high P ⊕ t)
          (quotient_times K _ _ (evaluate_lt K (lead_under K a.lead_high) P) (evaluate_lt K (lead_under K a.lead_low) P) z)
          ∙ ⊕_self _)

      pub stepped_after : (r : After F points symbols (suc i) (stepped F P v s)) × (i + 2 ≤ weight r.m)
      unfolding stepped corrected
      stepped_after = by (dec_lt a.n m')
        where
          l' : List ℕ
          l' = raised F P.x s.low

          u' : List ℕ
          u' = cancelled F P s.low s.high

          m' : ℕ
          m' = (lead_raised K P.x a.lead_low).0

          heavier : weight m' ≡ weight a.m + 2
          heavier = (lead_raised K P.x a.lead_low).1

          raised_lead : Lead F 1 m' l'
          raised_lead = (lead_raised K P.x a.lead_low).2

          Claim : Bool → Type 0
          Claim b = (r : After F points symbols (suc i) (held b l' u' (corrected F P v s.low s.word))) × (i + 2 ≤ weight r.m)

          few : {k : ℕ} → a.n ≤ suc k → a.m < k → Under F k (corrected F P v s.low s.word)
          few g h = under_add K _ (under_le K h (lead_under K a.lead_low)) (under_le K (omega arith) a.few)

          by : Dec (a.n < m') → Claim (ltb (length u') (length l'))
          by (yes h) =
              let further : a.m + 2 ≤ m' = index_two a.m m' heavier (omega (arith, a.lighter)) in
              subst Claim (sym (lt-ltb (length u') (length l') (omega (arith, lead_length K cancelled_lead, lead_length K raised_lead)))) (
                record {
                  m = a.n;
                  n = m';
                  lead_low = cancelled_lead;
                  lead_high = raised_lead;
                  lighter = h;
                  sum = omega (arith, a.sum, heavier);
                  zero_low = cancelled_zero;
                  zero_high = raised_zero s.low a.lead_low a.zero_low;
                  few = few (omega arith) (omega arith);
                  takes = corrected_takes s.low (lead_under K a.lead_low) a.zero_low z;
                },
                omega (arith, a.sum, weight_lt a.m a.n a.lighter),
              )
          by (no h) =
              let above : a.m < m' = weight_less a.m m' (omega (arith, heavier)) in
              let apart : m' ≡ a.n → ⊥ = λ e. omega (arith, ap weight e, a.sum, heavier) in
              subst Claim (sym (le-ltb (length u') (length l') (omega (arith, lead_length K cancelled_lead, lead_length K raised_lead)))) (
                record {
                  m = m';
                  n = a.n;
                  lead_low = raised_lead;
                  lead_high = cancelled_lead;
                  lighter = omega arith;
                  sum = omega (arith, a.sum, heavier);
                  zero_low = raised_zero s.low a.lead_low a.zero_low;
                  zero_high = cancelled_zero;
                  few = few (omega arith) (omega arith);
                  takes = corrected_takes s.low (lead_under K a.lead_low) a.zero_low z;
                },
                omega (arith, heavier),
              )
