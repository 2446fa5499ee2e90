-- The search as a run through the tries: what is found is the cheapest of what there was and of the tries that are left, the earliest of equals.
use Rattle.std.specs.Prelude.{ℕ, ◌<◌, ◌≡◌, List, map, get_or, set, take}
use Rattle.codewords.specs.Code.{Code, q}
use Rattle.codewords.specs.Codewords.{index, row}
use Rattle.patterns.specs.Patterns.{none, amounts, pair}
use Rattle.patterns.specs.Cheapest.{cheapest}
use Rattle.patterns.specs.Best.{changed, cost, word_of, tried}
use Rattle.picked_rows.specs.Stored.{Given}
use Rattle.search.specs.declared.block.Found.{Found}
use Rattle.search.specs.Found.{change_of}

-- the changes of one place more than c changes, in their order
abbrev pub values : ℕ → List ℕ → ℕ → List (List ℕ)
values q c i = map (λ e. set c i e) (amounts q)

module _ (code : Code) (received trusts : List ℕ) where
  -- what a change costs
  abbrev pub price : List ℕ → ℕ
  price c = cost received trusts (word_of code received trusts c)

  -- what has been found is a change of picked places, with its cost
  pub record IsTry (f : Found) : Type 0 where
    pub costs : f.cost ≡ price (change_of code.k f)
    pub late_in : f.late < code.k
    pub early_in : f.early < code.k
    pub d_lt : f.d < q code
    pub e_lt : f.e < q code
    -- the earlier place is another one, or the later is not changed
    pub apart : get_or (set (none code.k) f.late f.d) f.early 0 ≡ 0

  -- r is the best of f and of the first m of a list of changes
  pub record Runs (f : Found) (m : ℕ) (l : List (List ℕ)) (r : Found) : Type 0 where
    pub is_try : IsTry r
    pub best : change_of code.k r ≡ cheapest price (change_of code.k f) (take m l)

  -- r is the best of all that are tried
  pub record Finds (budget : ℕ) (r : Found) : Type 0 where
    pub is_try : IsTry r
    pub best : change_of code.k r ≡ cheapest price (none code.k) (tried code budget)

-- a change c of picked places, and the difference of its codeword from what was received
pub record Moved (code : Code) (received trusts J c difference : List ℕ) : Type 0 where
  pub given : Given code received trusts J
  pub is : difference ≡ changed received (word_of code received trusts c)

-- what the rows of two picked places give for their changes, in every code and for every received word of which they are the rows
abbrev pub RunsPair : (m : ℕ) (trusts difference lateRow earlyRow : List ℕ) (late early : ℕ) (f : Found) (left : ℕ) (r : Found) → Type 0
RunsPair m trusts difference lateRow earlyRow late early f left r =
    (code : Code) (received J : List ℕ) → code.field ≡ m → Moved code received trusts J (none code.k) difference
    → lateRow ≡ row code J (index late) → earlyRow ≡ row code J (index early) → late < code.k → early < late
    → IsTry code received trusts f → Runs code received trusts f left (pair (q code) code.k late early) r
