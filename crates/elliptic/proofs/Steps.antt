-- The state after each of the first points of a list is what proofs/Pair.antt says, and how long its functions are.
use Prim.Native.Nat.{ℕ, zero, suc, ◌+◌, ◌<◌, ◌≤◌}
use mathlib.Core.Path.{◌≡◌, refl, sym, ◌∙◌, ap, ap₂, subst}
use mathlib.Core.Bool.{cond}
use mathlib.Core.List.{List}
use native.Mathlib.Omega.{arith}
use native.Mathlib.Decide.{ℕ_discrete}
use lib.ListN.{length, get_or, take}
use lib.Seq.{length-take-le}
use borrow.Author.Tests.{eq-eqb, ne_eqb}
use Rattle.field.specs.Field.{Arithmetic, Field}
use Rattle.field.proofs.Laws.{zero_lt}
use Rattle.elliptic.specs.Curve.{Curve, Point, point}
use Rattle.elliptic.specs.Functions.{weight}
use Rattle.elliptic.specs.Pair.{State, evaluate, stepped, kept, step, after}
use Rattle.elliptic.proofs.Points.{Points, All, All.nil, All.cons, all_first, points_take}
use Rattle.elliptic.proofs.Weights.{index_le, weight_lt}
use Rattle.elliptic.proofs.Function.{Under, Lead, Zero, under_le, lead_under, lead_length}
use Rattle.elliptic.proofs.Descent.{Through, descent}
use Rattle.elliptic.proofs.Zeros.{zeros}
use Rattle.elliptic.proofs.Padding.{under_length}
use Rattle.elliptic.proofs.Pair.{place, After, upto, start_after, kept_after, stepped_after}

-- the state depends on the points and symbols so far only
pub after_same : (F : Arithmetic) (points points' : List Point) (symbols symbols' : List ℕ) (i : ℕ)
    → ((j : ℕ) → j < i → place points j ≡ place points' j) → ((j : ℕ) → j < i → get_or symbols j 0 ≡ get_or symbols' j 0)
    → after F points symbols i ≡ after F points' symbols' i
unfolding after
after_same F points points' symbols symbols' zero p v = refl
after_same F points points' symbols symbols' (suc i) p v =
    ap₂ (λ P v. step F P v (after F points symbols i)) (p i (omega arith)) (v i (omega arith))
    ∙ ap (λ s. step F (place points' i) (get_or symbols' i 0) s)
    (after_same F points points' symbols symbols' i (λ j h. p j (omega arith)) (λ j h. v j (omega arith)))

-- how many coefficients there are after i places
pub record Sizes (F : Arithmetic) (i : ℕ) (s : State) : Type 0 where
  pub low_some : 0 < length s.low
  pub high_some : 0 < length s.high
  pub low_length : length s.low ≤ i + 1
  pub high_length : length s.high ≤ i + 3
  pub word_length : length s.word ≤ i + 1
  pub low_under : Under F (i + 1) s.low
  pub high_under : Under F (i + 3) s.high
  pub word_under : Under F (i + 1) s.word

module _ {F : Arithmetic} (K : Field F) {C : Curve} {points : List Point} (p : Points F C points) where
  open F use {q}

  -- a function with leading coefficient 1 that is zero at the first i points
  pub through_first : {n : ℕ} {f : List ℕ} (i : ℕ) → i ≤ length points → Lead F 1 n f → ((j : ℕ) → j < i → Zero F f (place points j)) → Through F (take i points) n f
  through_first i h t z = record { l = 1; nonzero = λ e. omega arith; lead = t; zeros = all_first (point 0 0) points i h z }

  -- THEOREM Z for it
  pub weight_least : {n : ℕ} {f : List ℕ} (i : ℕ) → i ≤ length points → Lead F 1 n f → ((j : ℕ) → j < i → Zero F f (place points j)) → i ≤ weight n
  weight_least i h t z =
      omega (arith, zeros K (points_take i p) (through_first i h t z), length-take-le i points h)

  module _ {symbols : List ℕ} where
    -- L weighs i or i + 1
    pub low_least : {i : ℕ} {s : State} (a : After F points symbols i s) → i ≤ length points → i ≤ weight a.m
    low_least {i} a h = weight_least i h a.lead_low a.zero_low

    pub low_most : {i : ℕ} {s : State} (a : After F points symbols i s) → weight a.m ≤ i + 1
    low_most a = omega (arith, a.sum, weight_lt a.m a.n a.lighter)

    -- L and U are not both zero at the next place: theorem C
    pub one_nonzero : {i : ℕ} {s : State} (a : After F points symbols i s) → i < length points → Zero F s.low (place points i) → Zero F s.high (place points i) → ⊥
    one_nonzero {i} {s} a h z w =
        omega (
          arith,
          a.sum,
          length-take-le (suc i) points h,
          descent K C
              (record {
                points = points_take (suc i) p;
                first = through_first (suc i) h a.lead_low (upto (λ j. Zero F s.low (place points j)) a.zero_low z);
                second = through_first (suc i) h a.lead_high (upto (λ j. Zero F s.high (place points j)) a.zero_high w);
                k = i + 1;
                odd = omega (arith, a.sum);
              }),
        )

    -- L is zero at one further place at most: theorem Z
    pub one_further : {i : ℕ} {s : State} (a : After F points symbols i s) → suc i < length points → Zero F s.low (place points i)
        → Zero F s.low (place points (suc i)) → ⊥
    one_further {i} {s} a h z w =
        let Q : ℕ → Type 0 = λ j. Zero F s.low (place points j) in
        omega (arith, weight_least (suc (suc i)) h a.lead_low (upto Q (upto Q a.zero_low z) w), low_most a)

    -- where L weighs i + 1, the interpolant has one coefficient less than it may have else
    pub word_fewer : {i : ℕ} {s : State} (a : After F points symbols i s) → weight a.m ≡ i + 1 → Under F i s.word
    word_fewer {i} a e = let n : a.n ≤ i + 1 = index_le a.n (i + 1) (omega (arith, a.sum)) in under_le K (omega arith) a.few

    pub sizes : {i : ℕ} {s : State} → After F points symbols i s → i ≤ length points → Sizes F i s
    sizes {i} {s} a h =
        let m : a.m ≤ i = index_le a.m i (omega (arith, low_most a)) in
        let n : a.n ≤ i + 2 = index_le a.n (i + 2) (omega (arith, low_least a h, a.sum)) in
        let word : Under F (i + 1) s.word = under_le K (omega arith) a.few in
        let low : length s.low ≡ suc a.m = lead_length K a.lead_low in
        let high : length s.high ≡ suc a.n = lead_length K a.lead_high in
        record {
          low_some = omega arith;
          high_some = omega arith;
          low_length = omega arith;
          high_length = omega arith;
          word_length = under_length K word;
          low_under = under_le K (omega arith) (lead_under K a.lead_low);
          high_under = under_le K (omega arith) (lead_under K a.lead_high);
          word_under = word;
        }

    module _ (small : All (λ v. v < q) symbols) where
      pub symbol_lt : (i : ℕ) → get_or symbols i 0 < q
      symbol_lt i = go small i
        where
          go : {l : List ℕ} → All (λ v. v < q) l → (i : ℕ) → get_or l i 0 < q
          go nil i = zero_lt K
          go (cons h hs) zero = h
          go (cons h hs) (suc i) = go hs i

      step_after : (i : ℕ) (s : State) → i < length points → After F points symbols i s → After F points symbols (suc i) (step F (place points i) (get_or symbols i 0) s)
      unfolding step
      step_after i s h a = by (ℕ_discrete (evaluate F s.low (place points i)) 0)
        where
          P : Point
          P = place points i

          v : ℕ
          v = get_or symbols i 0

          by : Dec (Zero F s.low P) → After F points symbols (suc i) (step F P v s)
          by (yes z) =
              subst (λ b. After F points symbols (suc i) (cond b (kept F P v s) (stepped F P v s))) (sym (eq-eqb _ 0 z))
              (kept_after K points symbols i s a (symbol_lt i) z (one_nonzero a h z))
          by (no z) =
              subst (λ b. After F points symbols (suc i) (cond b (kept F P v s) (stepped F P v s))) (sym (ne_eqb _ 0 z))
              (stepped_after K points symbols i s a (symbol_lt i) z (low_least a (omega arith))).0

      -- THEOREM: the pair and the interpolant
      pub after_holds : (i : ℕ) → i ≤ length points → After F points symbols i (after F points symbols i)
      unfolding after
      after_holds zero h = start_after K points symbols
      after_holds (suc i) h = step_after i _ h (after_holds i (omega arith))

      pub after_sizes : (i : ℕ) → i ≤ length points → Sizes F i (after F points symbols i)
      after_sizes i h = sizes (after_holds i h) h
