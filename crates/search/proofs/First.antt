-- The first try changes nothing, so that it is a try at its cost, and what is found after it among the singles and the pairs is the best of all that are tried.
use Prim.Native.Nat.{ℕ, zero, suc, ◌*◌, ◌-◌, ◌<◌, ◌≤◌}
use mathlib.Core.Path.{◌≡◌, sym, ◌∙◌, ap}
use mathlib.Core.List.{List, ◌++◌}
use native.Mathlib.Omega.{arith}
use native.Mathlib.Nat.{le_refl, mul-le-mul}
use lib.ListN.{get_or, set, take}
use Rattle.field.proofs.Galois.{size_le, size_ge}
use Rattle.codewords.specs.Code.{Code, q}
use Rattle.codewords.proofs.Accepted.{Accepted, accepted_done}
use Rattle.patterns.specs.Patterns.{none, singles, pairs, patterns}
use Rattle.patterns.specs.Cheapest.{weigh, cheapest}
use Rattle.patterns.specs.Best.{tried, word_of}
use Rattle.patterns.proofs.Patterns.{none_listed, length_singles}
use Rattle.patterns.proofs.Runs.{keeps}
use Rattle.patterns.proofs.Slots.{cost_difference}
use Rattle.patterns.proofs.Weights.{none_at}
use Rattle.patterns.proofs.Words.{word_codeword, codeword_length}
use Rattle.picked_rows.specs.Stored.{array, Prepared}
use Rattle.search.specs.declared.block.Found.{Found}
use Rattle.search.specs.Found.{change_of, start}
use Rattle.search.proofs.Blocks.{set_none}
use Rattle.search.specs.Search.{price, IsTry, Runs, Finds}
use Rattle.search.proofs.Running.{runs_then}

-- ---- no change

change_start : (k c : ℕ) → change_of k (start c) ≡ none k
change_start k c = ap (λ l. set l 0 0) (set_none k 0) ∙ set_none k 0

module _ {code : Code} {received trusts J work : List ℕ} (p : Prepared code received trusts J work) where
  abbrev accepted : Accepted code
  accepted = accepted_done code p.given.done

  -- the singles are few
  pub singles_few : {s : ℕ} → s ≡ q code → code.k * (s - 1) ≤ 288 * 256
  singles_few {s} e =
      let places : code.k ≤ 288 = omega (arith, accepted.k_most, accepted.n_most) in
      let amounts : s - 1 ≤ 256 = omega (arith, e, size_le accepted.field) in
      mul-le-mul places amounts

  -- THEOREM: the first try, by the seventh array
  pub first_is : IsTry code received trusts (start (weigh trusts (array code work 6)))
  first_is =
      let g = p.given in
      let w = word_of code received trusts (none code.k) in
      let some : 0 < q code = omega (arith, size_ge accepted.field) in
      let places : 0 < code.k = omega (arith, accepted.k_least) in
      let size = codeword_length code g.done trusts w (word_codeword code g.done received trusts g.small g.size (none_listed some)) in
      record {
        costs =
            ap (weigh trusts) p.base ∙ sym (cost_difference received trusts w (g.trusted ∙ sym g.size) (g.size ∙ sym size))
            ∙ ap (price code received trusts) (sym (change_start code.k 0));
        late_in = places;
        early_in = places;
        d_lt = some;
        e_lt = some;
        apart = ap (λ l. get_or l 0 0) (set_none code.k 0) ∙ none_at code.k 0 places;
      }

-- ---- all tries

module _ (code : Code) (received trusts : List ℕ) where
  -- the first try is the one to begin with
  tried_after : (m : ℕ) → cheapest (price code received trusts) (none code.k) (tried code (suc m))
      ≡ cheapest (price code received trusts) (none code.k) (take m (singles (q code) code.k ++ pairs (q code) code.k))
  unfolding tried patterns cheapest
  tried_after m =
      ap (λ c. cheapest (price code received trusts) c (take m (singles (q code) code.k ++ pairs (q code) code.k)))
      (keeps (price code received trusts) (none code.k) (none code.k) (le_refl (price code received trusts (none code.k))))

-- THEOREM: the first try, the singles, and the pairs with what is left
pub finds_all : {code : Code} {received trusts : List ℕ} {c s m : ℕ} {f g r : Found} (budget : ℕ) → 1 ≤ budget
    → f ≡ start c → s ≡ q code → m ≡ budget - 1 - code.k * (s - 1)
    → Runs code received trusts f (budget - 1) (singles (q code) code.k) g → Runs code received trusts g m (pairs (q code) code.k) r
    → Finds code received trusts budget r
finds_all zero h e₀ e₁ e₂ a b = absurd (omega arith)
finds_all {code} {received} {trusts} {c} {s} {g = g} {r} (suc t) h e₀ e₁ e₂ a b =
    let less : suc t - 1 ≡ t = omega arith in
    let both = runs_then (length_singles (q code) code.k) (rw (e₀, less) at a) (rw (e₂, less, e₁) at b) in
    record {
      is_try = both.is_try;
      best =
          both.best
          ∙ ap (λ d. cheapest (price code received trusts) d (take t (singles (q code) code.k ++ pairs (q code) code.k))) (change_start code.k c)
          ∙ sym (tried_after code received trusts t);
    }
