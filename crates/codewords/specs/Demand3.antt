-- Demand 3, as far as it speaks of the definitions that the operations' outcomes are made of. Its clauses are quoted in their order.
use Rattle.std.specs.Prelude.{ℕ, ◌-◌, ◌<◌, ◌≡◌, true, cond, ◌⊎◌, ◌↔◌, List, [], ◌∷◌, length, get_or, take}
use Rattle.elliptic.specs.Functions.{nonzero, degree}
use Rattle.codewords.specs.Code.{Code, q}
use Rattle.codewords.specs.Codewords.{index, places, choice, message, coefficients, agreeing, count, agreeing_functions, unit_message}
use Rattle.codewords.specs.Codewords.{systematic_word, systematic_function, matrix, dependent, usable, relations, relation, pick, first_ranks, next_ranks}

-- a usable choice J and a message
pub record Systematic (code : Code) (J msg : List ℕ) : Type 0 where
  -- "Systematic word, and Rebuild of its places with the message symbols, equal the one codeword that agrees with the message there"
  pub one_word : agreeing code J msg ≡ systematic_word code J msg ∷ []
  -- "Systematic function equals the one list of k coefficients of that codeword"
  pub one_function : coefficients code (systematic_word code J msg) ≡ systematic_function code J msg ∷ []
  pub agreeing_function : agreeing_functions code J msg ≡ systematic_function code J msg ∷ []

-- a dependent choice J: "Relation equals the coefficients of the one nonzero function of weighted degree at most k that has leading coefficient 1
-- and is zero at all k places"; its weighted degree is k itself
pub record Related (code : Code) (J : List ℕ) : Type 0 where
  pub one_relation : relations code J ≡ relation code J ∷ []
  pub is_function : message code (relation code J) ≡ true
  pub is_nonzero : nonzero (relation code J) ≡ true
  pub full_degree : degree (relation code J) ≡ code.k

-- more than k ranked places: "Pick gives in rank order ranks 1 to k if these are usable, otherwise ranks 1 to k − 1 and k + 1, which then are"
pub record Picked (code : Code) (ranked : List ℕ) : Type 0 where
  pub ranks : pick code ranked ≡ cond (usable code (first_ranks code ranked)) (first_ranks code ranked) (next_ranks code ranked)
  pub is_choice : choice code (pick code ranked) ≡ true
  pub works : usable code (pick code ranked) ≡ true

pub record Demand3 (code : Code) : Type 0 where
  -- "answer 12 exactly if the k places are dependent": a choice works exactly if one codeword agrees, whatever the message
  pub usable_exactly : (J msg : List ℕ) → choice code J ≡ true → message code msg ≡ true → (usable code J ≡ true) ↔ (count code J msg ≡ 1)
  -- "Relation answers 15 exactly if they are not": then there is none
  pub no_relation : (J : List ℕ) → choice code J ≡ true → usable code J ≡ true → relations code J ≡ []
  -- "at a usable choice .."
  pub at_usable : (J msg : List ℕ) → choice code J ≡ true → message code msg ≡ true → usable code J ≡ true → Systematic code J msg
  -- "row i of Matrix equals the one codeword that agrees there with its message"
  pub rows : (J : List ℕ) → choice code J ≡ true → usable code J ≡ true → (i : ℕ) → i < code.k
      → agreeing code J (unit_message code.k (index i)) ≡ get_or (matrix code J) i [] ∷ []
  -- "at a dependent choice the count of agreeing codewords is 0 or q for each message"
  pub at_dependent : (J msg : List ℕ) → choice code J ≡ true → message code msg ≡ true → dependent code J ≡ true
      → (count code J msg ≡ 0) ⊎ (count code J msg ≡ q code)
  pub related : (J : List ℕ) → choice code J ≡ true → dependent code J ≡ true → Related code J
  -- "of s different ranked places, s above k .."
  pub pick_more : (ranked : List ℕ) → places code ranked ≡ true → code.k < length ranked → Picked code ranked
  -- Pick at s = k keeps all where they are usable, and all but the last where they are not
  pub pick_all : (ranked : List ℕ) → choice code ranked ≡ true
      → pick code ranked ≡ cond (usable code ranked) ranked (take (code.k - 1) ranked)
  -- Rebuild above k places: no codeword agrees with all symbols, or one does
  pub at_more : (J symbols : List ℕ) → places code J ≡ true → code.k < length J
      → (agreeing code J symbols ≡ []) ⊎ (agreeing code J symbols ≡ systematic_word code J symbols ∷ [])
