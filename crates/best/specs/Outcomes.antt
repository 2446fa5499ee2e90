-- Request S-7: n symbols and their trusts to the cheapest codeword of so many tries, with its cost, the tries made and the gap. Code; 8; 11; 23.
-- What the tries are, and what a codeword costs, is said in the crate patterns.
use Rattle.std.specs.Prelude.{ℕ, Bool, ◌&&◌, List, [], ◌∷◌, leb}
use Rattle.basics.specs.declared.Refusal.TheVariants.{Budget}
use Rattle.basics.specs.Outcome.{Outcome, accepted, check}
use Rattle.codewords.specs.Code.{Code, n, check_code}
use Rattle.solving.specs.Tests.{cleared, check_length, check_room, check_symbols}
use Rattle.patterns.specs.Best.{best, best_cost, tries_made, gap}

-- the lent memory: the word, the figures and the working space
abbrev pub Lent : Type 0
Lent = List ℕ × List ℕ × List ℕ

-- "a budget of 1 to 65,535 tries"
abbrev pub is_budget : ℕ → Bool
is_budget budget = leb 1 budget && leb budget 65535

-- "the cheapest tried codeword (the earliest of equals), its cost, the tries made .. and a gap"
abbrev pub figures_of : Code → List ℕ → List ℕ → ℕ → List ℕ
figures_of code received trusts budget = best_cost code received trusts budget ∷ tries_made code budget ∷ gap code received trusts budget ∷ []

-- Best: "it refuses with 23, after code, 8 and 11, if the budget is not 1 to 65,535"
abbrev pub best_outcome : Code → List ℕ → List ℕ → ℕ → List ℕ → List ℕ → List ℕ → Outcome Lent
best_outcome code received trusts budget out figures work =
    check_code code
    (check_length received (n code) (check_length trusts (n code) (check_length out (n code) (check_length figures 3 (check_room work
    (check_symbols code received
    (check (is_budget budget) Budget
    (accepted (best code received trusts budget, figures_of code received trusts budget, cleared work)))))))))
