-- From what was read, run and written to the whole.
use Prim.Native.Nat.{ℕ, ◌≤◌}
use mathlib.Core.Path.{◌≡◌, ap}
use mathlib.Core.List.{List, []}
use native.Mathlib.Omega.{arith}
use borrow.Author.Tests.{le-leb, lt-leb}
use lib.ListN.{length, take}
use Rattle.std.specs.Prelude.{Ok, Err}
use Rattle.basics.specs.declared.Refusal.{Refusal}
use Rattle.basics.specs.declared.Refusal.TheVariants.{Length}
use Rattle.basics.specs.Outcome.{Counted, Refused, Outcome, refused}
use Rattle.basics.proofs.Outcomes.{pass, refuse, count}
use Rattle.basics.proofs.Loops.{appended_none}
use Rattle.text.specs.Stages.{Appends}
use Rattle.sheet.specs.Job.{accepting, answer_text, answer_to, sheet_outcome, room, Answers}
use Rattle.sheet.specs.Running.{Solution, Runs}
use Rattle.sheet.proofs.Answers.{refusal_few, accepting_few, appends_as}
use Rattle.sheet.proofs.Few.{part}

-- what was written, by what was answered
pub written_ok : {o : Outcome Solution} {k n : ℕ} {f w out out' : List ℕ} {m : ℕ} → Runs o k f w (Ok n) → length f ≡ 288 → length w ≡ 288 → Appends (accepting (take k f) (take n w)) out 0 out' m
    → Appends (answer_text o) out 0 out' m × (m ≤ room)
unfolding answer_text
written_ok {f = f} {w} r a b p =
    (appends_as (ap answer_text r.outcome) p, omega (arith, p.count, accepting_few _ _ (part _ f r.within.0 a).short (part _ w r.within.1 b).short))

pub written_err : {o : Outcome Solution} {k : ℕ} {f w out out' : List ℕ} {m : ℕ} {e : Refusal} → Runs o k f w (Err e) → Appends (answer_text (refused e)) out 0 out' m
    → Appends (answer_text o) out 0 out' m × (m ≤ room)
written_err {e = e} r p = (appends_as (ap answer_text r.outcome) p, omega (arith, p.count, refusal_few e))

-- ---- the operation

pub too_short : (s out : List ℕ) → length out ≤ 4095 → Answers s out (Refused Length) out
unfolding sheet_outcome
too_short s out h = record { meets = refuse _ (lt-leb room (length out) (omega arith)); few = omega arith }

pub answered : (s out out' : List ℕ) (n : ℕ) → room ≤ length out → Appends (answer_to s) out 0 out' n → n ≤ room → Answers s out (Counted n) out'
unfolding sheet_outcome
answered s out out' n h p k =
    let a = p.behind [] out (appended_none out) in
    record { meets = pass _ (le-leb room (length out) h) (count a.count a.holds); few = k }
