-- What request S-7 promises, of every accepted code, every received word and all trusts.
use Rattle.std.specs.Prelude.{ℕ, ◌+◌, ◌*◌, ◌-◌, ◌/◌, ◌<◌, ◌≤◌, min, ◌≡◌, true, false, ◌⊎◌, List, [], ◌∷◌, eqb, length, get_or}
use Rattle.basics.specs.Lists.{any, filter, different, same}
use Rattle.codewords.specs.Code.{Code, q, n}
use Rattle.codewords.specs.Codewords.{all_lists, choice, message, codeword, usable}
use Rattle.patterns.specs.Ranking.{trust_at, ranking}
use Rattle.patterns.specs.Patterns.{none}
use Rattle.patterns.specs.Best.{entries, changed, cost, picked, tried, tries_made, untried, word_of, weight, best, best_cost, gap}

-- "Rank places by trust, higher first, equal trust by lower place": every place from 1 to n once, in that order
pub record Ranked (trust : ℕ → ℕ) (n : ℕ) (l : List ℕ) : Type 0 where
  pub every : (p : ℕ) → 1 ≤ p → p ≤ n → any (eqb p) l ≡ true
  pub once : different eqb l ≡ true
  pub size : length l ≡ n
  pub in_order : (i j : ℕ) → i < j → j < n
      → (trust (get_or l j 0) < trust (get_or l i 0)) ⊎ ((trust (get_or l j 0) ≡ trust (get_or l i 0)) × (get_or l i 0 < get_or l j 0))

-- "all these tries": no change, k places by q − 1, and k (k − 1) / 2 pairs by (q − 1)²
abbrev pub all_tries : Code → ℕ
all_tries code = 1 + (code.k * (q code - 1) + code.k * (code.k - 1) / 2 * ((q code - 1) * (q code - 1)))

module _ (code : Code) (received trusts : List ℕ) where
  -- the codeword of a try
  abbrev pub try_at : ℕ → ℕ → List ℕ
  try_at budget i = word_of code received trusts (get_or (tried code budget) i [])

  -- the change that a codeword has
  abbrev pub change_of : List ℕ → List ℕ
  change_of w = changed (entries received (picked code trusts)) (entries w (picked code trusts))

  -- "the earliest of equals": a try that gives the best word, and all before it cost more
  pub record First (budget : ℕ) : Type 0 where
    pub try : ℕ
    pub is_made : try < tries_made code budget
    pub gives : best code received trusts budget ≡ try_at budget try
    pub before : (i : ℕ) → i < try → best_cost code received trusts budget < cost received trusts (try_at budget i)

  pub record Promises : Type 0 where
    pub ranked : Ranked (trust_at trusts) (n code) (ranking (trust_at trusts) (n code))
    -- Pick never refuses
    pub picked_choice : choice code (picked code trusts) ≡ true
    pub picked_usable : usable code (picked code trusts) ≡ true
    -- changes of the picked places and codewords belong to one another one to one
    pub word_codeword : (c : List ℕ) → message code c ≡ true → codeword code (word_of code received trusts c) ≡ true
    pub word_agrees : (c : List ℕ) → message code c ≡ true
        → entries (word_of code received trusts c) (picked code trusts) ≡ changed (entries received (picked code trusts)) c
    pub one_change : (w : List ℕ) → codeword code w ≡ true
        → filter (λ c. same (word_of code received trusts c) w) (all_lists (q code) code.k) ≡ change_of w ∷ []
    -- "the tries made (the budget, or the number of all these tries if that is less)"
    pub tries : (budget : ℕ) → tries_made code budget ≡ min budget (all_tries code)
    -- no change is tried twice, and the first try changes nothing, so that every untried change changes something
    pub tried_once : (budget : ℕ) → different same (tried code budget) ≡ true
    pub none_first : (budget : ℕ) → 1 ≤ budget → get_or (tried code budget) 0 [] ≡ none code.k
    pub untried_some : (budget : ℕ) → 1 ≤ budget → any (same (none code.k)) (untried code budget) ≡ false
    pub tried_changes : (budget i : ℕ) → i < tries_made code budget → message code (get_or (tried code budget) i []) ≡ true
    -- "the cheapest tried codeword (the earliest of equals)"
    pub best_codeword : (budget : ℕ) → codeword code (best code received trusts budget) ≡ true
    pub best_cheapest : (budget i : ℕ) → i < tries_made code budget → best_cost code received trusts budget ≤ cost received trusts (try_at budget i)
    pub best_earliest : (budget : ℕ) → 1 ≤ budget → First budget
    -- a codeword costs at least the trust of the picked places that its change changes
    pub cost_least : (w : List ℕ) → codeword code w ≡ true → weight code trusts (change_of w) ≤ cost received trusts w
    -- "No codeword is cheaper by more than the gap"
    pub no_cheaper : (budget : ℕ) (w : List ℕ) → codeword code w ≡ true
        → best_cost code received trusts budget ≤ cost received trusts w + gap code received trusts budget
    -- "and a larger budget never gives a dearer word"
    pub never_dearer : (small large : ℕ) → small ≤ large → best_cost code received trusts large ≤ best_cost code received trusts small
    -- where nothing is untried the best is the cheapest codeword of all
    pub all_tried : (budget : ℕ) → untried code budget ≡ [] → (w : List ℕ) → codeword code w ≡ true
        → best_cost code received trusts budget ≤ cost received trusts w
