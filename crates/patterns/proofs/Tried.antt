-- A change is tried or untried; more budget tries more; every try is a change.
use Prim.Native.Nat.{ℕ, zero, suc, ◌<◌, ◌≤◌, min}
use mathlib.Core.Path.{◌≡◌, refl, sym, ◌∙◌, ap, subst}
use mathlib.Core.Bool.{Bool, true, false, not}
use mathlib.Core.Logic.{◌⊎◌, inl, inr}
use mathlib.Core.List.Memᴰ.{head as here}
use mathlib.Core.List.{List, [], Memᴰ as In}
use native.Mathlib.Omega.{arith}
use lib.ListN.{get_or, length-take}
use borrow.Author.Tests.{not-true}
use Rattle.basics.specs.Lists.{any, different, same}
use Rattle.basics.proofs.Lists.{same_true, same_refl}
use Rattle.elliptic.proofs.Points.{All}
use Rattle.codewords.specs.Code.{Code, q}
use Rattle.codewords.specs.Codewords.{all_lists}
use Rattle.codewords.proofs.Tests.{any_true, true_any, any_false, not_both, filter_in, in_filter}
use Rattle.codewords.proofs.Counting.{unique_different}
use Rattle.codewords.proofs.Listing.{Listed, in_lists}
use Rattle.patterns.specs.Patterns.{none, patterns}
use Rattle.patterns.specs.Best.{tried, tries_made, untried}
use Rattle.patterns.specs.Promises.{all_tries}
use Rattle.patterns.proofs.Parts.{in_take, all_take, unique_take}
use Rattle.patterns.proofs.Distinct.{unique_patterns}
use Rattle.patterns.proofs.Patterns.{patterns_listed, length_patterns}

module _ (code : Code) where
  pub tried_more : (small large : ℕ) → small ≤ large → {c : List ℕ} → In c (tried code small) → In c (tried code large)
  unfolding tried
  tried_more small large h i = in_take small large (patterns (q code) code.k) h i

  pub tried_listed : 0 < q code → (budget : ℕ) → All (Listed (q code) code.k) (tried code budget)
  unfolding tried
  tried_listed h budget = all_take budget (patterns_listed (q code) code.k h)

  -- THEOREM: the tries made
  pub tries : (budget : ℕ) → tries_made code budget ≡ min budget (all_tries code)
  unfolding tries_made tried
  tries budget = length-take budget (patterns (q code) code.k) ∙ ap (min budget) (length_patterns (q code) code.k)

  -- no change twice, and nothing first
  pub tried_once : (budget : ℕ) → different same (tried code budget) ≡ true
  unfolding tried
  tried_once budget = unique_different same same_true (unique_take budget (unique_patterns (q code) code.k))

  pub none_first : (budget : ℕ) → 1 ≤ budget → get_or (tried code budget) 0 [] ≡ none code.k
  unfolding tried patterns
  none_first zero h = absurd (omega arith)
  none_first (suc m) h = refl

  pub untried_some : (budget : ℕ) → 1 ≤ budget → any (same (none code.k)) (untried code budget) ≡ false
  unfolding tried patterns untried
  untried_some zero h = absurd (omega arith)
  untried_some (suc m) h =
      any_false (same (none code.k)) (untried code (suc m))
      (λ c i e.
      let (j, t) = filter_in (λ c. not (any (same c) (tried code (suc m)))) (all_lists (q code) code.k) i in
      let first : In c (tried code (suc m)) = here (sym (same_true (none code.k) c e)) in
      not_both (true_any (same c) first (same_refl c)) (not-true _ t))

  pub tried_or_not : (budget : ℕ) {c : List ℕ} → Listed (q code) code.k c → In c (tried code budget) ⊎ In c (untried code budget)
  unfolding untried
  tried_or_not budget {c} l = by (any (same c) (tried code budget)) refl
    where
      by : (b : Bool) → any (same c) (tried code budget) ≡ b → In c (tried code budget) ⊎ In c (untried code budget)
      by true e = let (d, i, s) = any_true (same c) (tried code budget) e in inl (subst (λ d. In d (tried code budget)) (sym (same_true c d s)) i)
      by false e = inr (in_filter (λ c. not (any (same c) (tried code budget))) (in_lists l) (ap not e))
