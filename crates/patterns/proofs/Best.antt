-- The best word: a codeword, the earliest of the cheapest tried; and no codeword is cheaper by more than the gap.
use Rattle.basics.specs.Outcome.{Done}
use Prim.Native.Nat.{ℕ, zero, suc, ◌+◌, ◌<◌, ◌≤◌}
use mathlib.Core.Path.{◌≡◌, sym, ◌∙◌, ap, subst}
use mathlib.Core.Bool.{true}
use mathlib.Core.Logic.{◌⊎◌, inl, inr}
use mathlib.Core.List.Memᴰ.{cases_cons}
use mathlib.Core.List.Memᴰ.{map as in_map}
use mathlib.Core.List.Memᴰ.{of_map as map-in}
use mathlib.Core.List.{List, [], ◌∷◌, map, Memᴰ as In}
use native.Mathlib.Omega.{arith}
use lib.ListN.{length, get_or, length-map}
use Rattle.codewords.specs.Code.{Code, q, n, code_answer}
use Rattle.codewords.specs.Codewords.{symbols, codeword}
use Rattle.codewords.proofs.Tests.{in_all}
use Rattle.codewords.proofs.Listing.{Listed}
use Rattle.codewords.proofs.Accepted.{accepted_done, laws}
use Rattle.basics.proofs.Lists.{get_or_map_in}
use Rattle.patterns.specs.Patterns.{none, patterns}
use Rattle.patterns.specs.Cheapest.{differing, cheapest, gap_to}
use Rattle.patterns.specs.Best.{entries, changed, cost, picked, tried, tries_made, untried, word_of, weight, best, best_cost, gap}
use Rattle.patterns.specs.Promises.{change_of, First}
use Rattle.patterns.proofs.Cheapest.{Earliest, cheapest_first, cheapest_le, cheapest_in, cheapest_earliest, gap_covers}
use Rattle.patterns.proofs.Patterns.{none_listed}
use Rattle.patterns.proofs.Totals.{differing_some}
use Rattle.patterns.proofs.Changes.{changed_twice, differing_changed}
use Rattle.patterns.proofs.Words.{are_places, entries_length, codeword_length, word_codeword, word_agrees, change_listed, word_change}
use Rattle.patterns.proofs.Tried.{tried_more, tried_listed, tried_or_not}

module _ (code : Code) (received trusts : List ℕ) where
  abbrev Word : List ℕ → List ℕ
  Word = word_of code received trusts

  abbrev Cost : List ℕ → ℕ
  Cost = cost received trusts

  abbrev start : List ℕ
  start = none code.k

  -- ---- the cheapest of the tries, whatever they are

  pub best_le : (budget : ℕ) {c : List ℕ} → In c (tried code budget) → best_cost code received trusts budget ≤ Cost (Word c)
  unfolding best_cost best
  best_le budget i = cheapest_le Cost (Word start) (in_map Word i)

  -- it is the word of no change or of a try
  best_of : (budget : ℕ) → (best code received trusts budget ≡ Word start) ⊎ ((c : List ℕ) × In c (tried code budget) × (Word c ≡ best code received trusts budget))
  unfolding best
  best_of budget = by (cases_cons (cheapest_in Cost (Word start) (map Word (tried code budget))))
    where
      b : List ℕ
      b = cheapest Cost (Word start) (map Word (tried code budget))

      by : (b ≡ Word start) ⊎ In b (map Word (tried code budget)) → (b ≡ Word start) ⊎ ((c : List ℕ) × In c (tried code budget) × (Word c ≡ b))
      by (inl e) = inl e
      by (inr i) = inr (map-in Word (tried code budget) i)

  -- THEOREM: a larger budget never gives a dearer word
  pub never_dearer : (small large : ℕ) → small ≤ large → best_cost code received trusts large ≤ best_cost code received trusts small
  unfolding best_cost best
  never_dearer small large h = by (best_of small)
    where
      by : (best code received trusts small ≡ Word start) ⊎ ((c : List ℕ) × In c (tried code small) × (Word c ≡ best code received trusts small))
          → best_cost code received trusts large ≤ best_cost code received trusts small
      by (inl e) = subst (λ w. best_cost code received trusts large ≤ Cost w) (sym e) (cheapest_first Cost (Word start) (map Word (tried code large)))
      by (inr (c, i, e)) = subst (λ w. best_cost code received trusts large ≤ Cost w) e (best_le large (tried_more code small large h i))

  -- THEOREM: the earliest of the cheapest tries
  pub best_earliest : (budget : ℕ) → 1 ≤ budget → First code received trusts budget
  unfolding best_cost best tries_made tried patterns
  best_earliest zero h = absurd (omega arith)
  best_earliest (suc m) h = by (cheapest_earliest Cost [] (Word start) (map Word ts))
    where
      ts : List (List ℕ)
      ts = tried code (suc m)

      b : List ℕ
      b = best code received trusts (suc m)

      made : length (map Word ts) ≡ length ts
      made = length-map ts Word

      at_map : (i : ℕ) → i < length ts → get_or (map Word ts) i [] ≡ Word (get_or ts i [])
      at_map i k = get_or_map_in Word ts i [] [] k

      by : Earliest Cost (Word start ∷ map Word ts) b [] → First code received trusts (suc m)
      by w = go w.rank w.within w.is w.before
        where
          go : (r : ℕ) → r < suc (length (map Word ts)) → b ≡ get_or (Word start ∷ map Word ts) r []
              → ((j : ℕ) → j < r → Cost b < Cost (get_or (Word start ∷ map Word ts) j [])) → First code received trusts (suc m)
          go zero k e f = record { try = 0; is_made = omega arith; gives = e; before = λ i l. absurd (omega arith) }
          go (suc r) k e f =
              record {
                try = r;
                is_made = omega (arith, made);
                gives = e ∙ at_map r (omega (arith, made));
                before = λ i l. subst (λ w. Cost b < Cost w) (at_map i (omega (arith, made))) (f (suc i) (omega arith));
              }

-- ---- what an accepted code adds

module _ (code : Code) (done : code_answer code ≡ Done) (received trusts : List ℕ) (small : symbols code received ≡ true) (size : length received ≡ n code) where
  pub some : 0 < q code
  some = omega (arith, (laws code (accepted_done code done)).one_lt)

  pub best_codeword : (budget : ℕ) → codeword code (best code received trusts budget) ≡ true
  best_codeword budget = by (best_of code received trusts budget)
    where
      by : (best code received trusts budget ≡ Word code received trusts (none code.k))
          ⊎ ((c : List ℕ) × In c (tried code budget) × (Word code received trusts c ≡ best code received trusts budget)) → codeword code (best code received trusts budget) ≡ true
      by (inl e) = ap (codeword code) e ∙ word_codeword code done received trusts small size (none_listed some)
      by (inr (c, i, e)) = ap (codeword code) (sym e) ∙ word_codeword code done received trusts small size (in_all i (tried_listed code some budget))

  module _ (trusted : length trusts ≡ n code) (w : List ℕ) (c : codeword code w ≡ true) where
    -- a codeword costs at least the trust of the picked places that its change changes
    pub cost_least : weight code trusts (change_of code received trusts w) ≤ cost received trusts w
    unfolding weight cost
    cost_least =
        let J : List ℕ = picked code trusts in
        let r : List ℕ = entries received J in
        let d : List ℕ = change_of code received trusts w in
        let sizes : length r ≡ length d = entries_length code done trusts received ∙ sym (change_listed code done received trusts small size w c).size in
        let k : length r ≡ code.k = entries_length code done trusts received in
        let same : differing (entries trusts J) (none code.k) d ≡ differing (entries trusts J) r (entries w J) =
        ap (λ m. differing (entries trusts J) (none m) d) (sym k) ∙ differing_changed (entries trusts J) r d sizes
        ∙ ap (differing (entries trusts J) r) (changed_twice r (entries w J) (k ∙ sym (entries_length code done trusts w))) in
        rw same
        (differing_some (n code) trusts received w J trusted size (codeword_length code done trusts w c) (are_places code done trusts).unique (are_places code done trusts).spots)

    -- THEOREM: no codeword is cheaper by more than the gap
    pub no_cheaper : (budget : ℕ) → best_cost code received trusts budget ≤ cost received trusts w + gap code received trusts budget
    unfolding gap
    no_cheaper budget = by (tried_or_not code budget (change_listed code done received trusts small size w c))
      where
        d : List ℕ
        d = change_of code received trusts w

        by : In d (tried code budget) ⊎ In d (untried code budget) → best_cost code received trusts budget ≤ cost received trusts w + gap code received trusts budget
        by (inl i) =
            let h : best_cost code received trusts budget ≤ cost received trusts w =
            subst (λ v. best_cost code received trusts budget ≤ cost received trusts v) (word_change code done received trusts small size w c) (best_le code received trusts budget i) in
            omega arith
        by (inr i) =
            omega (arith, cost_least, gap_covers (best_cost code received trusts budget) (map (weight code trusts) (untried code budget)) (in_map (weight code trusts) i))

    -- THEOREM: where nothing is untried, none is cheaper
    pub all_tried : (budget : ℕ) → untried code budget ≡ [] → best_cost code received trusts budget ≤ cost received trusts w
    unfolding gap gap_to
    all_tried budget e =
        let none : gap code received trusts budget ≡ 0 = ap (λ l. gap_to (best_cost code received trusts budget) (map (weight code trusts) l)) e in
        omega (arith, no_cheaper budget, none)

  -- a try costs at least the trust of the places that it changes
  pub weight_least : length trusts ≡ n code → {c : List ℕ} → Listed (q code) code.k c → weight code trusts c ≤ cost received trusts (word_of code received trusts c)
  weight_least trusted {c} l =
      let r : List ℕ = entries received (picked code trusts) in
      let same : change_of code received trusts (word_of code received trusts c) ≡ c =
      ap (changed r) (word_agrees code done received trusts small size l) ∙ changed_twice r c (entries_length code done trusts received ∙ sym l.size) in
      subst (λ d. weight code trusts d ≤ cost received trusts (word_of code received trusts c)) same
      (cost_least trusted (word_of code received trusts c) (word_codeword code done received trusts small size l))
