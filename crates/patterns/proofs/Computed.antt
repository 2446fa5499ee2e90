-- What the operation relies on holds of every accepted code.
use Rattle.basics.specs.Outcome.{Done}
use Prim.Native.Nat.{ℕ, zero, suc, ◌-◌, ◌≤◌}
use mathlib.Core.Path.{◌≡◌, sym, ◌∙◌, ap}
use mathlib.Core.Bool.{true}
use mathlib.Core.List.{List}
use native.Mathlib.Omega.{arith}
use lib.ListN.{length}
use Rattle.codewords.specs.Code.{Code, q, n, code_answer}
use Rattle.codewords.specs.Codewords.{symbols}
use Rattle.codewords.proofs.Places.{message_listed}
use Rattle.codewords.proofs.Accepted.{accepted_done, laws}
use Rattle.patterns.specs.Cheapest.{gap_to, weigh}
use Rattle.patterns.specs.Best.{entries, picked, tried, untried, weight, best_cost, gap}
use Rattle.patterns.specs.Computed.{least_left, picked_trusts, Computed}
use Rattle.patterns.proofs.Weights.{differing_none, weigh_single, weigh_pair}
use Rattle.patterns.proofs.Words.{entries_length}
use Rattle.patterns.proofs.Falling.{falling_at, falling_picked}
use Rattle.patterns.proofs.Linear.{word_set}
use Rattle.patterns.proofs.Best.{weight_least}
use Rattle.patterns.proofs.Gap.{gap_left}

module _ (code : Code) (done : code_answer code ≡ Done) (received trusts : List ℕ) where
  gap_by : (budget : ℕ) → 1 ≤ budget
      → gap code received trusts budget ≡ gap_to (best_cost code received trusts budget) (least_left (entries trusts (picked code trusts)) code.k (q code - 1) (budget - 1))
  unfolding gap untried tried weight
  gap_by zero h = absurd (omega arith)
  gap_by (suc t) h =
      let e : suc t - 1 ≡ t = omega arith in
      gap_left (q code) code.k (laws code (accepted_done code done)).one_lt (entries trusts (picked code trusts)) (entries_length code done trusts trusts)
      (falling_picked code done trusts) t (best_cost code received trusts (suc t)) (weight code trusts)
      (λ c. differing_none code.k (entries trusts (picked code trusts)) c (entries_length code done trusts trusts))
      ∙ ap (λ u. gap_to (best_cost code received trusts (suc t)) (least_left (entries trusts (picked code trusts)) code.k (q code - 1) u)) (sym e)

  weight_is : (c : List ℕ) → weight code trusts c ≡ weigh (picked_trusts code received trusts) c
  unfolding weight
  weight_is c = differing_none code.k (picked_trusts code received trusts) c (entries_length code done trusts trusts)

-- THEOREM
pub computed : (code : Code) → code_answer code ≡ Done → (received trusts : List ℕ) → symbols code received ≡ true → length received ≡ n code → length trusts ≡ n code
    → Computed code received trusts
computed code done received trusts small size trusted =
    record {
      falling = λ i j h g. falling_at (falling_picked code done trusts) i j h (rw k g);
      word_more = λ c m i d h b z. word_set code done received trusts small size c (message_listed code c m) i d h b z;
      weight_least = λ c m. weight_least code done received trusts small size trusted (message_listed code c m);
      weight_single = λ i d h n. weight_is code done received trusts _ ∙ weigh_single ts code.k k i d h n;
      weight_pair = λ late early d e h g m n. weight_is code done received trusts _ ∙ weigh_pair ts code.k k late early d e h g m n;
      gap_by = gap_by code done received trusts;
    }
  where
    ts : List ℕ
    ts = picked_trusts code received trusts

    k : length ts ≡ code.k
    k = entries_length code done trusts trusts
