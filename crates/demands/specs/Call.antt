-- A call of an operation that is lent an output and a working space: its answer, and what these hold before and after it.
use Rattle.std.specs.Prelude.{ℕ, ◌≤◌, ◌≡◌, List, length}
use Rattle.basics.specs.Outcome.{Answer, Outcome, Meets}
use Rattle.solving.specs.Tests.{Lent, room}

pub record Call : Type 0 where
  pub answer : Answer
  pub out : List ℕ
  pub work : List ℕ
  pub out_after : List ℕ
  pub work_after : List ℕ

abbrev pub call : Answer → List ℕ → List ℕ → List ℕ → List ℕ → Call
call r out work out' work' = record { answer = r; out = out; work = work; out_after = out'; work_after = work' }

-- it is a call of the operation with this outcome: what the operation's contract says
abbrev pub Of : (List ℕ → List ℕ → Outcome Lent) → Call → Type 0
Of outcome c = Meets (outcome c.out c.work) c.answer (c.out, c.work) (c.out_after, c.work_after)

-- the output has its length, and there is room to work: number 8 does not apply to them
pub record Fits (size : ℕ) (c : Call) : Type 0 where
  pub output : length c.out ≡ size
  pub working : room ≤ length c.work
