-- Demand 3: which choices of places work, and what each operation over places does at those that do and at those that do not.
-- Each clause is of calls to which no number listed before 12 (in Relation, before 15) applies.
use Rattle.basics.specs.Outcome.{Done, Refused}
use Rattle.std.specs.Prelude.{ℕ, ◌*◌, ◌<◌, ◌≡◌, true, false, cond, ◌⊎◌, ◌↔◌, List, length, take, drop}
use Rattle.basics.specs.declared.Refusal.TheVariants.{Dependent, NoCodeword, Independent}
use Rattle.elliptic.specs.Functions.{nonzero, leading}
use Rattle.codewords.specs.Code.{Code, q, n}
use Rattle.codewords.specs.Codewords.{index, agrees, unit_message, places, choice, symbols, message, word, codeword, count, zero_on, dependent, usable, first_ranks, next_ranks}
use Rattle.coder.specs.Outcomes.{systematic_function_outcome, systematic_word_outcome, matrix_outcome, relation_outcome, pick_outcome, rebuild_outcome}
use Rattle.demands.specs.Call.{Call, Of, Fits}

module _ (code : Code) (J : List ℕ) where
  -- w is the one codeword that agrees with the message at the places
  pub record OneWord (msg w : List ℕ) : Type 0 where
    pub is_codeword : codeword code w ≡ true
    pub agreeing : agrees w J msg ≡ true
    pub only : (v : List ℕ) → codeword code v ≡ true → agrees v J msg ≡ true → v ≡ w
    pub one : count code J msg ≡ 1

  -- f is the one list of k coefficients of that codeword
  pub record OneFunction (msg f : List ℕ) : Type 0 where
    pub is_function : message code f ≡ true
    pub its_word : OneWord msg (word code f)
    pub only : (g : List ℕ) → message code g ≡ true → word code g ≡ word code f → g ≡ f

  -- f is the one function of weighted degree at most k that has leading coefficient 1 and is zero at the places
  pub record OneRelation (f : List ℕ) : Type 0 where
    pub is_function : message code f ≡ true
    pub is_nonzero : nonzero f ≡ true
    pub is_leading : leading f ≡ 1
    pub is_zero : zero_on code J f ≡ true
    pub only : (g : List ℕ) → message code g ≡ true → leading g ≡ 1 → zero_on code J g ≡ true → g ≡ f

  -- the call answers 12 exactly if the places are dependent, and otherwise it is accepted and its output is as the claim says
  pub record UnlessDependent (claim : List ℕ → Type 0) (c : Call) : Type 0 where
    pub dependent_12 : (c.answer ≡ Refused Dependent) ↔ (dependent code J ≡ true)
    pub usable_done : (c.answer ≡ Done) ↔ (usable code J ≡ true)
    pub gives : usable code J ≡ true → claim c.out_after

  -- Relation: 15 exactly if they are not dependent
  pub record IfDependent (claim : List ℕ → Type 0) (c : Call) : Type 0 where
    pub usable_15 : (c.answer ≡ Refused Independent) ↔ (usable code J ≡ true)
    pub dependent_done : (c.answer ≡ Done) ↔ (dependent code J ≡ true)
    pub gives : dependent code J ≡ true → claim c.out_after

-- the i-th of the rows of n that stand one after the other
abbrev pub row_of : ℕ → ℕ → List ℕ → List ℕ
row_of n i out = take n (drop (i * n) out)

-- Pick of more than k places: ranks 1 to k if these are usable, otherwise ranks 1 to k − 1 and k + 1; what it gives is a usable choice
pub record PickedMore (code : Code) (ranked : List ℕ) (c : Call) : Type 0 where
  pub done : c.answer ≡ Done
  pub ranks : c.out_after ≡ cond (usable code (first_ranks code ranked)) (first_ranks code ranked) (next_ranks code ranked)
  pub is_choice : choice code c.out_after ≡ true
  pub works : usable code c.out_after ≡ true

-- Rebuild of more than k places: 14 exactly if no codeword agrees with all of them, and otherwise the one that does
pub record RebuiltMore (code : Code) (J us : List ℕ) (c : Call) : Type 0 where
  pub none_14 : (c.answer ≡ Refused NoCodeword) ↔ (count code J us ≡ 0)
  pub else_done : (c.answer ≡ Done) ⊎ (c.answer ≡ Refused NoCodeword)
  pub gives : c.answer ≡ Done → OneWord code J us c.out_after

-- of a call of Systematic word
abbrev pub WordClause : Code → List ℕ → List ℕ → Call → Type 0
WordClause code J msg c = choice code J ≡ true → message code msg ≡ true → Fits (n code) c → UnlessDependent code J (OneWord code J msg) c

pub record Demand3 (code : Code) : Type 0 where
  -- "exactly one codeword agrees there with each message exactly when no nonzero function of weighted degree at most k is zero at all of them"
  pub exactly_one : (J : List ℕ) → choice code J ≡ true
      → ((msg : List ℕ) → message code msg ≡ true → count code J msg ≡ 1)
      ↔ ((f : List ℕ) → message code f ≡ true → nonzero f ≡ true → zero_on code J f ≡ false)
  -- "otherwise the count is 0 or q for each message"
  pub none_or_q : (J msg : List ℕ) → choice code J ≡ true → message code msg ≡ true → dependent code J ≡ true
      → (count code J msg ≡ 0) ⊎ (count code J msg ≡ q code)
  -- Systematic word, Systematic function and Matrix
  pub of_systematic_word : (J msg : List ℕ) (c : Call) → Of (systematic_word_outcome code J msg) c → WordClause code J msg c
  pub of_systematic_function : (J msg : List ℕ) (c : Call) → Of (systematic_function_outcome code J msg) c → choice code J ≡ true → message code msg ≡ true → Fits code.k c
      → UnlessDependent code J (OneFunction code J msg) c
  pub matrix : (J : List ℕ) (c : Call) → Of (matrix_outcome code J) c → choice code J ≡ true → Fits (code.k * n code) c
      → UnlessDependent code J (λ out. (i : ℕ) → i < code.k → OneWord code J (unit_message code.k (index i)) (row_of (n code) i out)) c
  -- "Relation gives the one such function with leading coefficient one"
  pub relation : (J : List ℕ) (c : Call) → Of (relation_outcome code J) c → choice code J ≡ true → Fits code.k c → IfDependent code J (OneRelation code J) c
  -- Pick and Rebuild at s = k
  pub pick : (J : List ℕ) (c : Call) → Of (pick_outcome code J) c → choice code J ≡ true → Fits code.k c → UnlessDependent code J (λ out. out ≡ J) c
  pub rebuild : (J msg : List ℕ) (c : Call) → Of (rebuild_outcome code J msg) c → choice code J ≡ true → message code msg ≡ true → Fits (n code) c
      → UnlessDependent code J (OneWord code J msg) c
  -- and with s above k, where they never answer 12
  pub pick_more : (ranked : List ℕ) (c : Call) → Of (pick_outcome code ranked) c → places code ranked ≡ true → code.k < length ranked
      → Fits code.k c → PickedMore code ranked c
  pub rebuild_more : (J us : List ℕ) (c : Call) → Of (rebuild_outcome code J us) c → places code J ≡ true → symbols code us ≡ true → length us ≡ length J
      → code.k < length J → Fits (n code) c → RebuiltMore code J us c
