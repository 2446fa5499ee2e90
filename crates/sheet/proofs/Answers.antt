-- Every answer fits the room, and is written part by part.
use Prim.Native.Nat.{ℕ, ◌≤◌}
use mathlib.Core.Path.{◌≡◌, ◌∙◌}
use mathlib.Core.List.{List, [], ◌∷◌, ◌++◌, append_assoc}
use native.Mathlib.Omega.{arith}
use lib.ListN.{length, length-append}
use Rattle.basics.specs.declared.Refusal.{Refusal}
use Rattle.basics.specs.Outcome.{refused, number}
use Rattle.text.specs.Text.{answer_key, function_key, word_key, line_of}
use Rattle.basics.proofs.Loops.{appended_as}
use Rattle.text.specs.Stages.{Appends}
use Rattle.text.proofs.Appending.{line_few}
use Rattle.sheet.specs.Job.{accepting, answer_text, room}

pub refusal_few : (e : Refusal) → length (answer_text (refused e)) ≤ room
unfolding answer_text
refusal_few e = omega (arith, line_few answer_key (number e ∷ []))

pub accepting_few : (f w : List ℕ) → length f ≤ 288 → length w ≤ 288 → length (accepting f w) ≤ room
unfolding accepting
accepting_few f w h k =
    omega (
      arith,
      line_few answer_key (0 ∷ []),
      line_few function_key f,
      line_few word_key w,
      length-append (line_of function_key f) (line_of word_key w),
      length-append (line_of answer_key (0 ∷ [])) (line_of function_key f ++ line_of word_key w),
    )

pub appends_then : {a b out out' out'' : List ℕ} {n n' n'' : ℕ} → Appends a out n out' n' → Appends b out' n' out'' n'' → Appends (a ++ b) out n out'' n''
appends_then {a} {b} p q =
    record {
      behind = λ l old h. appended_as (append_assoc l a b) (q.behind (l ++ a) old (p.behind l old h));
      count = omega (arith, p.count, q.count, length-append a b);
      size = q.size ∙ p.size;
    }

pub appends_as : {a b out out' : List ℕ} {n n' : ℕ} → a ≡ b → Appends a out n out' n' → Appends b out n out' n'
appends_as e p = rw e at p
