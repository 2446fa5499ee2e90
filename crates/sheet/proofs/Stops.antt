-- Test after test of a job, and what an operation that is called says.
use Prim.{tt}
use Prim.Native.Nat.{ℕ}
use mathlib.Core.Bool.{Bool, true, false}
use mathlib.Core.Path.{◌≡◌, refl}
use mathlib.Core.List.{List}
use Rattle.std.specs.Prelude.{Result, Ok, Err}
use Rattle.std.specs.Result.{IsErrAnd}
use Rattle.basics.specs.declared.Refusal.{Refusal}
use Rattle.basics.specs.Outcome.{Done, Refused, Outcome, refused, accepted, counted, check, answer, left, Meets}
use Rattle.sheet.specs.Running.{Solution, Runs}

-- ---- a job's own tests

module _ {k : ℕ} {f w : List ℕ} where
  pub passes : (e : Refusal) {b : Bool} {o : Outcome Solution} {r : Result ℕ Refusal} → b ≡ true → Runs o k f w r → Runs (check b e o) k f w r
  unfolding check
  passes e h m = rw h m

  pub stops : {b : Bool} {e : Refusal} (o : Outcome Solution) → b ≡ false → Runs (check b e o) k f w (Err e)
  unfolding check
  stops o h = record { outcome = rw h refl; within = tt }

  pub runs_as : {o p : Outcome Solution} {r : Result ℕ Refusal} → o ≡ p → Runs p k f w r → Runs o k f w r
  runs_as e m = rw e m

  -- a `?` passed a refusal on
  pub exit_ran : {o : Outcome Solution} {e : Refusal} (r : Result ℕ Refusal) → IsErrAnd r (λ d. d ≡ e) → refused e ≡ o → Runs o k f w r
  exit_ran (Ok n) h q = absurd h
  exit_ran (Err d) h q = record { outcome = rw h q; within = tt }

-- ---- an operation that refused

pub refused_as : {M : Type 0} (o : Outcome M) {e : Refusal} → Refused e ≡ answer o → refused e ≡ o
unfolding answer
refused_as (refused d) h = cc
refused_as (accepted m) h = cc
refused_as (counted n m) h = cc

-- an outcome with the same test is the same refusal, if what is behind it is
module _ {M N : Type 0} where
  pub refused_check : (b : Bool) (d : Refusal) {e : Refusal} {u : Outcome M} {o : Outcome N} → (refused e ≡ u → refused e ≡ o) → refused e ≡ check b d u → refused e ≡ check b d o
  unfolding check
  refused_check true d next h = next h
  refused_check false d next h = cc

-- ---- an operation whose last test is b

module _ {M : Type 0} (b : Bool) (d : Refusal) (m : M) {old new : M} where
  pub last_refused : {N : Type 0} {e : Refusal} (x : N) → Meets (check b d (accepted m)) (Refused e) old new → refused e ≡ check b d (accepted x)
  last_refused x met = refused_check b d (λ h. cc) (refused_as _ met.answers)

module _ {M : Type 0} (d : Refusal) (m : M) {old new : M} where
  pub last_done : (b : Bool) → Meets (check b d (accepted m)) Done old new → (b ≡ true) × (new ≡ m)
  unfolding check answer left
  last_done true met = (refl, met.leaves)
  last_done false met = let h = met.answers in (cc, cc)
