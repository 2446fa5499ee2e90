-- Means as calls: request S-2's "hour h holds stamps 60h + 1 to 60h + 60, and stamp 0 is in no hour and gives 19", and document 01's "every reading is
-- counted in one hour and one only".
use Rattle.std.specs.Prelude.{ℕ, ◌+◌, ◌*◌, ◌≤◌, ◌<◌, ◌≡◌, true, ◌↔◌, List, ℤ, length, get_or}
use Rattle.basics.specs.declared.Refusal.TheVariants.{Hour}
use Rattle.basics.specs.Outcome.{Answer, Done, Refused, Meets}
use Rattle.hours.specs.Means.{in_hour, increasing, means_outcome, EachOnce}

-- stamps, readings and the first hour of a call, the answer, and the means before and after
abbrev pub Means : List ℕ → List ℤ → ℕ → Answer → List ℤ → List ℤ → Type 0
Means ts rs first r old new = Meets (means_outcome ts rs first (length old)) r old new

-- no number before the stamps' 19 applies
pub record InOrder (ts : List ℕ) (rs : List ℤ) (first : ℕ) (old : List ℤ) : Type 0 where
  pub one_each : length ts ≡ length rs
  pub few_hours : length old ≤ 153
  pub early : first ≤ 71000000
  pub ascending : increasing ts ≡ true

pub record Hours : Type 0 where
  -- "hour h holds stamps 60h + 1 to 60h + 60"
  pub holds : (h t : ℕ) → (in_hour h t ≡ true) ↔ ((60 * h + 1 ≤ t) × (t ≤ 60 * h + 60))
  -- "stamp 0 is in no hour and gives 19"
  pub stamp_0 : (ts : List ℕ) (rs : List ℤ) (first : ℕ) (r : Answer) (old new : List ℤ) → Means ts rs first r old new → InOrder ts rs first old
      → (i : ℕ) → i < length ts → get_or ts i 0 ≡ 0 → r ≡ Refused Hour
  -- "every reading is counted in one hour and one only", in every accepted call
  pub each_once : (ts : List ℕ) (rs : List ℤ) (first : ℕ) (old new : List ℤ) → Means ts rs first Done old new → EachOnce ts rs first (length old) new
