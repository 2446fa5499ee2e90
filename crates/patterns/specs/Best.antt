-- Best word within a number of tries: the picked places, the codeword of a change, its cost, the tries, the best of them and the gap.
use Rattle.std.specs.Prelude.{ℕ, not, List, [], ◌∷◌, map, length, take}
use Rattle.basics.specs.Lists.{any, filter, same}
use Rattle.field.specs.Sum.{◌⊕◌}
use Rattle.codewords.specs.Code.{Code, q, n}
use Rattle.codewords.specs.Codewords.{place, symbol_at, all_lists, systematic_word, pick}
use Rattle.patterns.specs.Ranking.{trust_at, ranking}
use Rattle.patterns.specs.Patterns.{none, patterns}
use Rattle.patterns.specs.Cheapest.{differing, cheapest, gap_to}

-- the entries of a list at places
unfoldable pub entries : List ℕ → List ℕ → List ℕ
entries l J = map (λ p. symbol_at l (place p)) J

-- symbols with a change
unfoldable pub changed : List ℕ → List ℕ → List ℕ
changed [] c = []
changed (u ∷ us) [] = u ∷ us
changed (u ∷ us) (d ∷ c) = (u ⊕ d) ∷ changed us c

-- "a codeword costs the total trust of places where it differs from the received word"
unfoldable pub cost : List ℕ → List ℕ → List ℕ → ℕ
cost received trusts w = differing trusts received w

-- "Rank places by trust .. Pick k"
unfoldable pub picked : Code → List ℕ → List ℕ
picked code trusts = pick code (ranking (trust_at trusts) (n code))

module _ (code : Code) (budget : ℕ) where
  -- the changes tried "within a budget"
  unfoldable pub tried : List (List ℕ)
  tried = take budget (patterns (q code) code.k)

  -- "the tries made (the budget, or the number of all these tries if that is less)"
  unfoldable pub tries_made : ℕ
  tries_made = length tried

  -- "any untried change of picked places .., of however many places"
  unfoldable pub untried : List (List ℕ)
  untried = filter (λ c. not (any (same c) tried)) (all_lists (q code) code.k)

-- the total trust of the picked places that are changed
unfoldable pub weight : Code → List ℕ → List ℕ → ℕ
weight code trusts c = differing (entries trusts (picked code trusts)) (none code.k) c

module _ (code : Code) (received trusts : List ℕ) where
  -- the codeword of a change: it agrees with the received word at the picked places but for the change
  unfoldable pub word_of : List ℕ → List ℕ
  word_of c = systematic_word code (picked code trusts) (changed (entries received (picked code trusts)) c)

  -- "the cheapest tried codeword (the earliest of equals)"; the first try changes nothing
  unfoldable pub best : ℕ → List ℕ
  best budget = cheapest (cost received trusts) (word_of (none code.k)) (map word_of (tried code budget))

  -- "its cost"
  unfoldable pub best_cost : ℕ → ℕ
  best_cost budget = cost received trusts (best budget)

  unfoldable pub gap : ℕ → ℕ
  gap budget = gap_to (best_cost budget) (map (weight code trusts) (untried code budget))
