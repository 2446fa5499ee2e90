-- What the operation relies on: rows, tries that need not be made, and for the gap, in place of going through all changes: the trusts of picked places never rise, so of the untried changes of one
-- place that of the last such place is least, of those of two places one of two is, and none of three or more has less than the last three places together.
use Rattle.std.specs.Prelude.{ℕ, zero, suc, ◌+◌, ◌*◌, ◌-◌, ◌/◌, ◌<◌, ◌≤◌, ◌≡◌, true, cond, List, [], ◌∷◌, ◌++◌, ltb, leb, get_or, set}
use Rattle.elliptic.specs.Pair.{add_scaled}
use Rattle.codewords.specs.Code.{Code, arithmetic, q}
use Rattle.codewords.specs.Codewords.{index, message, row}
use Rattle.patterns.specs.Patterns.{none}
use Rattle.patterns.specs.Cheapest.{gap_to}
use Rattle.patterns.specs.Best.{entries, cost, picked, weight, word_of, best_cost, gap}

module _ (trusts : List ℕ) where
  abbrev at : ℕ → ℕ
  at i = get_or trusts i 0

  -- of k places from the last on, the first behind those that are done with
  unfoldable pub single_left : ℕ → ℕ → List ℕ
  single_left k done = cond (ltb done k) (at (k - 1 - done) ∷ []) []

  -- the two last of k places
  unfoldable pub pair_below : ℕ → List ℕ
  pair_below k = cond (leb 2 k) ((at (k - 1) + at (k - 2)) ∷ []) []

  -- of the pairs of k places, by the later and then the earlier place, the first behind those that are done with, and the first of the next later place
  unfoldable pub pair_left : ℕ → ℕ → List ℕ
  pair_left zero done = []
  pair_left (suc late) done = let next = pair_left late (done - late) in cond (ltb done late) ((at late + at (late - 1 - done)) ∷ pair_below late) next

  -- the three last of k places
  unfoldable pub triple_left : ℕ → List ℕ
  triple_left k = cond (leb 3 k) ((at (k - 1) + (at (k - 2) + at (k - 3))) ∷ []) []

  -- the least is among these, after so many tries of changes by 1 to s
  unfoldable pub least_left : ℕ → ℕ → ℕ → List ℕ
  least_left k s tries = single_left k (tries / s) ++ (pair_left k ((tries - k * s) / (s * s)) ++ triple_left k)

module _ (code : Code) (received trusts : List ℕ) where
  -- the trusts of the picked places, and the row of the matrix for one of them
  abbrev pub picked_trusts : List ℕ
  picked_trusts = entries trusts (picked code trusts)

  abbrev pub picked_row : ℕ → List ℕ
  picked_row i = row code (picked code trusts) (index i)

  pub record Computed : Type 0 where
    -- the trusts never rise
    pub falling : (i j : ℕ) → i ≤ j → j < code.k → get_or picked_trusts j 0 ≤ get_or picked_trusts i 0
    -- a change of one place more adds a multiple of its row to the codeword
    pub word_more : (c : List ℕ) → message code c ≡ true → (i d : ℕ) → i < code.k → d < q code → get_or c i 0 ≡ 0
        → word_of code received trusts (set c i d) ≡ add_scaled (arithmetic code) d (picked_row i) (word_of code received trusts c)
    -- a try costs at least the trust of the places that it changes: one that cannot be cheaper need not be made
    pub weight_least : (c : List ℕ) → message code c ≡ true → weight code trusts c ≤ cost received trusts (word_of code received trusts c)
    pub weight_single : (i d : ℕ) → i < code.k → (d ≡ 0 → ⊥) → weight code trusts (set (none code.k) i d) ≡ get_or picked_trusts i 0
    pub weight_pair : (late early d e : ℕ) → late < code.k → early < late → (d ≡ 0 → ⊥) → (e ≡ 0 → ⊥)
        → weight code trusts (set (set (none code.k) late d) early e) ≡ get_or picked_trusts late 0 + get_or picked_trusts early 0
    -- the gap
    pub gap_by : (budget : ℕ) → 1 ≤ budget
        → gap code received trusts budget ≡ gap_to (best_cost code received trusts budget) (least_left picked_trusts code.k (q code - 1) (budget - 1))
