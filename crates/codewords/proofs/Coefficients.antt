-- Lists of k coefficients: as lists of symbols, their sums, the zero function, and what a weighted degree says of them.
use Prim.Native.Nat.{ℕ, zero, suc, ◌+◌, ◌<◌, ◌≤◌}
use mathlib.Core.Path.{◌≡◌, refl, sym, ◌∙◌, ap, subst}
use mathlib.Core.Bool.{true}
use mathlib.Core.List.{List, [], ◌∷◌}
use native.Mathlib.Nat.{le_trans, le-max_left, le-max_right, le_of_eq, zero-add, add-zero}
use native.Mathlib.Omega.{arith}
use native.Mathlib.Decide.{ℕ_discrete}
use lib.ListN.{length, get_or, replicate, length-replicate}
use borrow.Author.Tests.{ne_eqb}
use Rattle.field.specs.Field.{Arithmetic, Field}
use Rattle.field.proofs.Laws.{zero_lt}
use Rattle.elliptic.specs.declared.Point.{Point}
use Rattle.elliptic.specs.Functions.{weight, nonzero, degree_from, degree}
use Rattle.elliptic.specs.Pair.{evaluate, add_scaled}
use Rattle.elliptic.proofs.Points.{All, All.nil, All.cons}
use Rattle.elliptic.proofs.Function.{Under, Under.none, Under.more, Coefficients, Lead, Lead.top, Lead.low, under_add, length_add}
use Rattle.elliptic.proofs.Padding.{Zeros, evaluate_pad}
use Rattle.elliptic.proofs.Values.{nonzero_false, false_nonzero}
use Rattle.codewords.proofs.Tests.{passes, not_both}
use Rattle.codewords.proofs.Listing.{Listed}

pub nonzero_true : (f : List ℕ) → (Zeros f → ⊥) → nonzero f ≡ true
nonzero_true f n = passes (nonzero f) (λ e. n (false_nonzero f e))

pub true_nonzero : (f : List ℕ) → nonzero f ≡ true → Zeros f → ⊥
true_nonzero f e z = not_both e (nonzero_false z)

-- ---- the weighted degree

-- the weight of a coefficient that is not 0 is within the degree
degree_least : (f : List ℕ) (i j : ℕ) → (get_or f j 0 ≡ 0 → ⊥) → weight (i + j) ≤ degree_from i f
unfolding degree_from
degree_least [] i j h = absurd (h refl)
degree_least (c ∷ cs) i zero h = rw (ne_eqb c 0 h, add-zero i) (le-max_left (weight i) _)
degree_least (c ∷ cs) i (suc j) h = le_trans (subst (λ m. weight m ≤ degree_from (suc i) cs) (next i j) (degree_least cs (suc i) j h)) (le-max_right _ _)
  where
    next : (i j : ℕ) → suc i + j ≡ i + suc j
    next i j = omega arith

-- a function of weighted degree at most k has no coefficients past the first k
pub no_more : (k : ℕ) (f : List ℕ) → 1 ≤ k → degree f ≤ k → (i : ℕ) → k ≤ i → get_or f i 0 ≡ 0
unfolding degree weight
no_more k f h d zero l = absurd (omega arith)
no_more k f h d (suc i) l = by (ℕ_discrete (get_or f (suc i) 0) 0)
  where
    by : Dec (get_or f (suc i) 0 ≡ 0) → get_or f (suc i) 0 ≡ 0
    by (yes e) = e
    by (no g) = absurd (omega (arith, degree_least f 0 (suc i) g, ap weight (zero-add (suc i))))

zeros_from : (i : ℕ) {f : List ℕ} → Zeros f → degree_from i f ≡ 0
unfolding degree_from
zeros_from i nil = refl
zeros_from i (cons e z) = rw (e, zeros_from (suc i) z)

pub zeros_degree : {f : List ℕ} → Zeros f → degree f ≡ 0
unfolding degree
zeros_degree z = zeros_from 0 z

pub zeros_of : (k : ℕ) → Zeros (replicate k 0)
zeros_of zero = nil
zeros_of (suc k) = cons refl (zeros_of k)

module _ {F : Arithmetic} (K : Field F) where
  open F use {q}

  -- ---- k coefficients are k symbols

  elements_under : {f : List ℕ} → All (λ c. c < q) f → Under F (length f) f
  elements_under nil = none
  elements_under (cons h hs) = more h (elements_under hs)

  under_elements : {k : ℕ} {f : List ℕ} → Under F k f → All (λ c. c < q) f
  under_elements none = nil
  under_elements (more h u) = cons h (under_elements u)

  pub listed_coefficients : {k : ℕ} {f : List ℕ} → Listed q k f → Coefficients F k f
  listed_coefficients {f = f} u = record { under = subst (λ n. Under F n f) u.size (elements_under u.symbols); size = u.size }

  pub coefficients_listed : {k : ℕ} {f : List ℕ} → Coefficients F k f → Listed q k f
  coefficients_listed u = record { symbols = under_elements u.under; size = u.size }

  -- ---- f + t·h

  pub coefficients_add : {k : ℕ} (t : ℕ) {h f : List ℕ} → Coefficients F k h → Coefficients F k f → Coefficients F k (add_scaled F t h f)
  coefficients_add t {h} {f} u v = record { under = under_add K t u.under v.under; size = length_add F t h f (le_of_eq (u.size ∙ sym v.size)) ∙ v.size }

  -- ---- the zero function

  pub evaluate_zero : (k : ℕ) (P : Point) → evaluate F (replicate k 0) P ≡ 0
  unfolding evaluate
  evaluate_zero k P = evaluate_pad K [] k P

  pub lead_zero : (n : ℕ) → Lead F 0 n (replicate (suc n) 0)
  lead_zero zero = top refl (zero_lt K)
  lead_zero (suc n) = low (zero_lt K) (lead_zero n)

  under_zero : (k : ℕ) → Under F k (replicate k 0)
  under_zero zero = none
  under_zero (suc k) = more (zero_lt K) (under_zero k)

  pub zero_coefficients : (k : ℕ) → Coefficients F k (replicate k 0)
  zero_coefficients k = record { under = under_zero k; size = length-replicate k 0 }
