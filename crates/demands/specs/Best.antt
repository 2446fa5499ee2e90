-- Request S-7 as calls: "within a budget of 1 to 65,535 tries, give the cheapest tried codeword (the earliest of equals), its cost, the tries made .. and a gap."
-- What the ranking, the picked places, the tries and the costs are is said in the crate patterns.
use Rattle.std.specs.Prelude.{ℕ, ◌+◌, ◌<◌, ◌≤◌, min, ◌≡◌, true, ◌↔◌, List, [], ◌∷◌, map, length, get_or}
use Rattle.basics.specs.declared.Refusal.TheVariants.{Budget}
use Rattle.basics.specs.Outcome.{Answer, Done, Refused, Meets}
use Rattle.codewords.specs.Code.{Code, q, n}
use Rattle.codewords.specs.Codewords.{symbols, codeword}
use Rattle.solving.specs.Tests.{room, cleared}
use Rattle.patterns.specs.Patterns.{patterns}
use Rattle.patterns.specs.Cheapest.{gap_to}
use Rattle.patterns.specs.Best.{cost, tried, untried, weight, best}
use Rattle.patterns.specs.Promises.{all_tries, try_at, Promises}
use Rattle.best.specs.Outcomes.{Lent, best_outcome}

-- a call: its answer, and what the word, the figures and the working space hold before and after it
pub record BestCall : Type 0 where
  pub answer : Answer
  pub out : List ℕ
  pub figures : List ℕ
  pub work : List ℕ
  pub out_after : List ℕ
  pub figures_after : List ℕ
  pub work_after : List ℕ

abbrev pub before : BestCall → Lent
before c = (c.out, c.figures, c.work)

abbrev pub after : BestCall → Lent
after c = (c.out_after, c.figures_after, c.work_after)

-- the three figures that it gives
abbrev pub cost_of : BestCall → ℕ
cost_of c = get_or c.figures_after 0 0

abbrev pub tries_of : BestCall → ℕ
tries_of c = get_or c.figures_after 1 0

abbrev pub gap_of : BestCall → ℕ
gap_of c = get_or c.figures_after 2 0

-- "a budget of 1 to 65,535 tries"
abbrev pub InBudget : ℕ → Type 0
InBudget budget = (1 ≤ budget) × (budget ≤ 65535)

module _ (code : Code) (received trusts : List ℕ) (budget : ℕ) where
  -- it is a call of Best: what the contract says
  abbrev pub OfBest : BestCall → Type 0
  OfBest c = Meets (best_outcome code received trusts budget c.out c.figures c.work) c.answer (before c) (after c)

  -- a call of Best to which, of an accepted code, no number before 23 applies
  pub record Asked (c : BestCall) : Type 0 where
    pub of_best : OfBest c
    -- 8
    pub received_length : length received ≡ n code
    pub trusts_length : length trusts ≡ n code
    pub out_length : length c.out ≡ n code
    pub figures_length : length c.figures ≡ 3
    pub working : room ≤ length c.work
    -- 11
    pub small : symbols code received ≡ true

  -- "the earliest of equals": the try that gave the word, and all before it cost more
  pub record Earliest (c : BestCall) : Type 0 where
    pub try : ℕ
    pub is_made : try < tries_of c
    pub gives : c.out_after ≡ try_at code received trusts budget try
    pub dearer_before : (i : ℕ) → i < try → cost_of c < cost received trusts (try_at code received trusts budget i)

  -- what such a call gives
  pub record Found (c : BestCall) : Type 0 where
    pub done : c.answer ≡ Done
    pub written : c.out_after ≡ best code received trusts budget
    pub three : c.figures_after ≡ cost_of c ∷ tries_of c ∷ gap_of c ∷ []
    pub working : c.work_after ≡ cleared c.work
    -- "the cheapest tried codeword (the earliest of equals), its cost"
    pub is_codeword : codeword code c.out_after ≡ true
    pub its_cost : cost_of c ≡ cost received trusts c.out_after
    pub cheapest : (i : ℕ) → i < tries_of c → cost_of c ≤ cost received trusts (try_at code received trusts budget i)
    pub earliest : Earliest c
    -- "the tries made (the budget, or the number of all these tries if that is less)": as many as the patterns tried in the defined order
    pub tries_counted : tries_of c ≡ length (tried code budget)
    pub budget_or_all : tries_of c ≡ min budget (length (patterns (q code) code.k))
    -- "the gap is the cost less the least total trust that any untried change of picked places could have, of however many places,
    -- and 0 if that is negative or nothing is untried"
    pub gap_is : gap_of c ≡ gap_to (cost_of c) (map (weight code trusts) (untried code budget))
    pub gap_0 : untried code budget ≡ [] → gap_of c ≡ 0
    -- "no codeword is cheaper by more than the gap"
    pub no_cheaper : (w : List ℕ) → codeword code w ≡ true → cost_of c ≤ cost received trusts w + gap_of c
    -- where nothing is untried it is the cheapest of all codewords
    pub all_tried : untried code budget ≡ [] → (w : List ℕ) → codeword code w ≡ true → cost_of c ≤ cost received trusts w

pub record BestWord (code : Code) : Type 0 where
  -- "rank places by trust .. Pick k. Try the codeword that agrees with the received word there ..": the ranking, the picked places and the tries are such
  pub tries : (received trusts : List ℕ) → symbols code received ≡ true → length received ≡ n code → length trusts ≡ n code
      → Promises code received trusts
  -- "the number of all these tries": none, singles and pairs
  pub tries_in_all : length (patterns (q code) code.k) ≡ all_tries code
  pub best_word : (received trusts : List ℕ) (budget : ℕ) (c : BestCall) → Asked code received trusts budget c → InBudget budget
      → Found code received trusts budget c
  -- "a larger budget never gives a dearer word"
  pub never_dearer : (received trusts : List ℕ) (small large : ℕ) (c d : BestCall) → Asked code received trusts small c → Asked code received trusts large d
      → InBudget small → InBudget large → small ≤ large → cost_of d ≤ cost_of c
  -- "it refuses with 23, after code, 8 and 11, if the budget is not 1 to 65,535", and otherwise it accepts
  pub budget_23 : (received trusts : List ℕ) (budget : ℕ) (c : BestCall) → Asked code received trusts budget c
      → ((c.answer ≡ Refused Budget) ↔ (InBudget budget → ⊥)) × ((c.answer ≡ Done) ↔ InBudget budget)
