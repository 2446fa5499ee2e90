-- Request S-5 as calls: "a running state", what a run of accepted calls gives, and what 16 and 22 refuse.
use Rattle.std.specs.Prelude.{ℕ, ◌^◌, ◌<◌, ◌≡◌, true, false, ◌↔◌, List, [], ◌∷◌, ℤ, length}
use Rattle.basics.specs.declared.Refusal.{Refusal}
use Rattle.basics.specs.declared.Refusal.TheVariants.{Reading, NoRun}
use Rattle.basics.specs.Outcome.{Answer, Done, Refused, Meets}
use Rattle.basics.specs.SetBits.{Bytes}
use Rattle.hours.specs.Means.{absent}
use Rattle.hours.specs.Packing.{valid}
use Rattle.rolling.specs.declared.state.RollingState.{RollingState}
use Rattle.rolling.specs.Runs.{Hour, follows, run, rolling_mean}
use Rattle.rolling.specs.State.{state_of, Given, possible, step_outcome}
use Rattle.rolling.specs.Bytes.{state_bytes, fresh_outcome, rolling_outcome}

-- a call: the state and the list for the rolling mean before it, the hour, the answer, and both lists after it
pub record Step : Type 0 where
  pub state : List ℕ
  pub out : List ℤ
  pub hour : Hour
  pub answer : Answer
  pub state_after : List ℕ
  pub out_after : List ℤ

-- it is a call of Rolling: what the contract says, of an hour's number of 32 bits
pub record Rolls (c : Step) : Type 0 where
  pub meets : Meets (rolling_outcome c.state c.hour.number c.hour.mean c.out) c.answer (c.state, c.out) (c.state_after, c.out_after)
  pub hour_small : c.hour.number < 2 ^ 32

-- "a run of accepted hours from a fresh state", as calls: the newest hour first, and the state behind them
pub record Continued (Before : List ℕ → Type 0) (h : Hour) (state : List ℕ) : Type 0 where
  pub call : Step
  pub of_rolling : Rolls call
  pub before : Before call.state
  pub its_hour : call.hour ≡ h
  pub accepted : call.answer ≡ Done
  pub after : call.state_after ≡ state

abbrev pub Gives : List Hour → List ℕ → Type 0
Gives [] state = (old : List ℕ) × Meets (fresh_outcome old) Done old state
Gives (h ∷ hs) state = Continued (Gives hs) h state

pub record RollingDay : Type 0 where
  -- "after any run of accepted hours from a fresh state it equals the figure worked out afresh from the last 24, or from all if there were fewer"
  pub gives_rolling_mean : (hs : List Hour) (c : Step) → Gives hs c.state → Rolls c → c.answer ≡ Done → c.out_after ≡ rolling_mean (c.hour ∷ hs) ∷ []
  -- such runs are those of the definition, and no other state belongs to one
  pub runs : (hs : List Hour) (state : List ℕ) → Gives hs state ↔ ((run hs ≡ true) × (state ≡ state_bytes (state_of hs)))
  -- "it refuses with 16 as Pack does", where 8 does not apply
  pub reading_16 : (c : Step) → Rolls c → length c.state ≡ 64 → length c.out ≡ 1 → (c.answer ≡ Refused Reading) ↔ (valid c.hour.mean ≡ false)
  -- "and then with 22 if no such run, not even an empty one, gives the state handed in"
  pub no_run_22 : (c : Step) → Rolls c → Bytes c.state → length c.state ≡ 64 → length c.out ≡ 1 → valid c.hour.mean ≡ true
      → ((hs : List Hour) → Gives hs c.state → ⊥) → c.answer ≡ Refused NoRun
  -- "or if the hour isn't one more than the last (for a fresh state: if it is above 71,000,000)", and otherwise it accepts
  pub at_next_hour : (hs : List Hour) (c : Step) → Gives hs c.state → Rolls c → length c.out ≡ 1 → valid c.hour.mean ≡ true
      → ((c.answer ≡ Refused NoRun) ↔ (follows hs c.hour.number ≡ false)) × ((c.answer ≡ Done) ↔ (follows hs c.hour.number ≡ true))
  -- "and the state comes back as it went in"
  pub handed_back : (c : Step) (e : Refusal) → Rolls c → c.answer ≡ Refused e → (c.state_after ≡ c.state) × (c.out_after ≡ c.out)
  -- the same of "a running state, by value": the test of a state is whether a run gives it, and a step goes by the run
  pub state_test : (s : RollingState) → length s.codes ≡ 24 → (possible s ≡ true) ↔ Given s
  pub step : (hs : List Hour) (h : Hour) (r : Answer) (new : RollingState) (mean : ℤ) → run hs ≡ true → h.number < 2 ^ 32
      → Meets (step_outcome (state_of hs) h.number h.mean) r (state_of hs, absent) (new, mean)
      → ((r ≡ Done) ↔ (run (h ∷ hs) ≡ true)) × (r ≡ Done → (new ≡ state_of (h ∷ hs)) × (mean ≡ rolling_mean (h ∷ hs)))
  -- equal states have equal bytes, and equal bytes are of equal states
  pub one_form : (hs gs : List Hour) (a b : List ℕ) → Gives hs a → Gives gs b → (a ≡ b) ↔ (state_of hs ≡ state_of gs)
