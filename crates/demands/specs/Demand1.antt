-- Demand 1: "Every accepted call writes its whole output and no other byte but its working space. Every refused call gives the first number that
-- applies in document 01's order, and changes no lent byte." That every call ends without a fault is what the check of each function says.
use Rattle.std.specs.Prelude.{ℕ, ◌≤◌, ◌≡◌, ◌↔◌, true, false, List, [], ◌∷◌, ◌++◌, map, ℤ, length, take, drop, replicate}
use Rattle.basics.specs.declared.Refusal.{Refusal}
use Rattle.basics.specs.Lists.{table}
use Rattle.basics.specs.Outcome.{Answer, Done, Counted, Refused, answer, Meets}
use Rattle.field.specs.Galois.{IsField, galois, size, width}
use Rattle.elliptic.specs.declared.Curve.{Curve}
use Rattle.elliptic.specs.Curve.{coefficients_below, singular, affine_points}
use Rattle.codewords.specs.Code.{Code, n}
use Rattle.codewords.specs.Codewords.{word, recovered, systematic_function, systematic_word, matrix, relation, pick}
use Rattle.curve.specs.Points.{points_outcome, room as pointRoom}
use Rattle.code.specs.Heard.{heard_places, heard_outcome}
use Rattle.hours.specs.Means.{mean_at, means_outcome}
use Rattle.hours.specs.Packing.{packed, unpacked}
use Rattle.rolling.specs.State.{state_of, advanced, figure}
use Rattle.rolling.specs.Bytes.{state_from, state_bytes, fresh_outcome, rolling_outcome}
use Rattle.blocks.specs.Outcomes.{plain_outcome, pack_block_outcome, unpack_block_outcome}
use Rattle.solving.specs.Tests.{Lent, room}
use Rattle.coder.specs.Outcomes.{joined}
use Rattle.coder.specs.Outcomes.{recover_outcome, systematic_function_outcome, systematic_word_outcome, matrix_outcome, relation_outcome, pick_outcome, rebuild_outcome}
use Rattle.decoding.specs.Near.{distance, corrected}
use Rattle.correction.specs.Outcomes.{correct_outcome}
use Rattle.patterns.specs.Best.{best}
use Rattle.best.specs.Outcomes.{Lent as BestLent, figures_of}
use Rattle.text.specs.Reading.{Sheet}
use Rattle.sheet.specs.Job.{code_for, job_outcome, answer_to, Answers as AnswersSheet}
use Rattle.demands.specs.Call.{Call, call, Of}
use Rattle.demands.specs.Best.{BestCall, OfBest, before, after}
use Rattle.demands.specs.Order.{Test, first, numbers, points_tests, means_tests, fresh_tests, rolling_tests, plain_tests, pack_tests, unpack_tests, heard_tests}
use Rattle.demands.specs.Order.{recover_tests, systematic_tests, matrix_tests, relation_tests, pick_tests, rebuild_tests, correct_tests, best_tests, job_tests, sheet_tests}

-- the answer r, with lent memory from old to new, of a call that has the tests ts, whose numbers are ns
pub record Answers {M : Type 0} (ns : List ℕ) (ts : List Test) (r : Answer) (old new : M) (whole : Type 0) : Type 0 where
  pub order : numbers ts ≡ ns
  pub refused : (e : Refusal) → (r ≡ Refused e) ↔ (first ts ≡ Refused e)
  pub unchanged : (e : Refusal) → r ≡ Refused e → new ≡ old
  pub accepted : first ts ≡ Done → whole

-- an output that is written whole: what it holds is l, whatever was there, and the answer is a
pub record Filled {A : Type 0} (a : Answer) (l : List A) (r : Answer) (old new : List A) : Type 0 where
  pub done : r ≡ a
  pub written : new ≡ l
  pub whole : length l ≡ length old

-- a list at the front of a buffer, with its count; past it nothing changes
pub record Listed (l : List ℕ) (r : Answer) (old new : List ℕ) : Type 0 where
  pub counted : r ≡ Counted (length l)
  pub front : take (length l) new ≡ l
  pub rest : drop (length l) new ≡ drop (length l) old
  pub whole : length new ≡ length old

-- an output that is written whole, and a working space whose first 8,192 bytes are zero and the rest untouched
pub record Worked (a : Answer) (l : List ℕ) (c : Call) : Type 0 where
  pub output : Filled a l c.answer c.out c.out_after
  pub zeros : take room c.work_after ≡ replicate room 0
  pub untouched : drop room c.work_after ≡ drop room c.work
  pub whole : length c.work_after ≡ length c.work

-- of an operation that is lent one list, and of one that is lent a working space too, with the answer of accepted calls
abbrev pub Fills : {A : Type 0} → List ℕ → List Test → List A → Answer → List A → List A → Type 0
Fills ns ts l r old new = Answers ns ts r old new (Filled Done l r old new)

abbrev pub WorksWith : Answer → List ℕ → List Test → List ℕ → Call → Type 0
WorksWith a ns ts l c = Answers {M = Lent} ns ts c.answer (c.out, c.work) (c.out_after, c.work_after) (Worked a l c)

abbrev pub Works : List ℕ → List Test → List ℕ → Call → Type 0
Works = WorksWith Done

abbrev code_numbers : List ℕ
code_numbers = 1 ∷ 2 ∷ 3 ∷ 4 ∷ 5 ∷ 6 ∷ 7 ∷ []

-- Points: all affine points, their X and their Y in its two buffers
abbrev pub PointsAnswers : ℕ → Curve → Answer → List ℕ → List ℕ → List ℕ → List ℕ → Type 0
PointsAnswers m C r xs ys xs' ys' =
    Answers {M = Lent} (1 ∷ 2 ∷ 3 ∷ 8 ∷ []) (points_tests m C xs ys) r (xs, ys) (xs', ys')
    (Listed (map (λ P. P.x) (affine_points (galois m) C)) r xs xs' × Listed (map (λ P. P.y) (affine_points (galois m) C)) r ys ys')

-- Rolling: both lists that it is lent are written whole
abbrev pub RollingAnswers : List ℕ → ℕ → ℤ → List ℤ → Answer → List ℕ → List ℤ → Type 0
RollingAnswers state hour mean out r state' out' =
    let new = advanced (state_from state) hour mean in
    Answers {M = List ℕ × List ℤ} (8 ∷ 8 ∷ 16 ∷ 22 ∷ 22 ∷ []) (rolling_tests state hour mean out) r (state, out) (state', out')
    (Filled Done (state_bytes new) r state state' × Filled Done (figure new.codes ∷ []) r out out')

-- Best: the word and the figures are written whole, and the working space is cleared
abbrev pub BestAnswers : Code → List ℕ → List ℕ → ℕ → BestCall → Type 0
BestAnswers code received trusts budget c =
    Answers {M = BestLent} (code_numbers ++ 8 ∷ 8 ∷ 8 ∷ 8 ∷ 8 ∷ 11 ∷ 23 ∷ []) (best_tests code received trusts budget c.out c.figures c.work)
    c.answer (before c) (after c)
    (Worked Done (best code received trusts budget) (call c.answer c.out c.work c.out_after c.work_after)
    × Filled Done (figures_of code received trusts budget) c.answer c.figures c.figures_after)

pub record Demand1 : Type 0 where
  pub points : (m : ℕ) (C : Curve) (r : Answer) (xs ys xs' ys' : List ℕ) → Meets (points_outcome m C xs ys) r (xs, ys) (xs', ys')
      → PointsAnswers m C r xs ys xs' ys'
  -- "all affine points": there is room for them, whatever the curve
  pub points_fit : (m : ℕ) (C : Curve) → IsField m → coefficients_below (size m) C ≡ true → singular (galois m) C ≡ false
      → length (affine_points (galois m) C) ≤ pointRoom
  pub means : (stamps : List ℕ) (readings : List ℤ) (hour : ℕ) (r : Answer) (old new : List ℤ) → Meets (means_outcome stamps readings hour (length old)) r old new
      → Fills (8 ∷ 19 ∷ 18 ∷ 19 ∷ 16 ∷ []) (means_tests stamps readings hour (length old)) (table (mean_at stamps readings hour) (length old)) r old new
  -- the rolling state before the first hour, and Rolling: the new state in place of the old one, and the rolling mean
  pub rolling_fresh : (r : Answer) (old new : List ℕ) → Meets (fresh_outcome old) r old new → Fills (8 ∷ []) (fresh_tests old) (state_bytes (state_of [])) r old new
  pub rolling : (state : List ℕ) (hour : ℕ) (mean : ℤ) (out : List ℤ) (r : Answer) (state' : List ℕ) (out' : List ℤ)
      → Meets (rolling_outcome state hour mean out) r (state, out) (state', out') → RollingAnswers state hour mean out r state' out'
  pub plain : (code : Code) (f : List ℕ) (r : Answer) (old new : List ℕ) → Meets (plain_outcome code f (length old)) r old new
      → Fills (code_numbers ++ 8 ∷ 8 ∷ 11 ∷ []) (plain_tests code f old) (word code f) r old new
  pub pack : (code : Code) (means : List ℤ) (r : Answer) (old new : List ℕ) → Meets (pack_block_outcome code means (length old)) r old new
      → Fills (code_numbers ++ 8 ∷ 8 ∷ 16 ∷ []) (pack_tests code means old) (packed (width code.field) means (length old)) r old new
  pub unpack : (code : Code) (block : List ℕ) (r : Answer) (old new : List ℤ) → Meets (unpack_block_outcome code block (length old)) r old new
      → Fills (code_numbers ++ 8 ∷ 8 ∷ 11 ∷ 17 ∷ []) (unpack_tests code block old) (unpacked (width code.field) block (length old)) r old new
  pub heard : (code : Code) (mask : List ℕ) (r : Answer) (old new : List ℕ) → Meets (heard_outcome code mask old) r old new
      → Answers (code_numbers ++ 8 ∷ 8 ∷ 9 ∷ []) (heard_tests code mask old) r old new (Listed (heard_places mask (n code)) r old new)
  pub recover : (code : Code) (w : List ℕ) (c : Call) → Of (recover_outcome code w) c
      → Works (code_numbers ++ 8 ∷ 8 ∷ 8 ∷ 11 ∷ 14 ∷ []) (recover_tests code w c.out c.work) (recovered code w) c
  pub of_systematic_function : (code : Code) (J msg : List ℕ) (c : Call) → Of (systematic_function_outcome code J msg) c
      → Works (code_numbers ++ 8 ∷ 8 ∷ 8 ∷ 8 ∷ 9 ∷ 10 ∷ 11 ∷ 12 ∷ []) (systematic_tests code code.k J msg c.out c.work) (systematic_function code J msg) c
  pub of_systematic_word : (code : Code) (J msg : List ℕ) (c : Call) → Of (systematic_word_outcome code J msg) c
      → Works (code_numbers ++ 8 ∷ 8 ∷ 8 ∷ 8 ∷ 9 ∷ 10 ∷ 11 ∷ 12 ∷ []) (systematic_tests code (n code) J msg c.out c.work) (systematic_word code J msg) c
  pub matrix : (code : Code) (J : List ℕ) (c : Call) → Of (matrix_outcome code J) c
      → Works (code_numbers ++ 8 ∷ 8 ∷ 8 ∷ 9 ∷ 10 ∷ 12 ∷ []) (matrix_tests code J c.out c.work) (joined (matrix code J)) c
  pub relation : (code : Code) (J : List ℕ) (c : Call) → Of (relation_outcome code J) c
      → Works (code_numbers ++ 8 ∷ 8 ∷ 8 ∷ 9 ∷ 10 ∷ 15 ∷ []) (relation_tests code J c.out c.work) (relation code J) c
  pub pick : (code : Code) (J : List ℕ) (c : Call) → Of (pick_outcome code J) c
      → Works (code_numbers ++ 8 ∷ 8 ∷ 8 ∷ 9 ∷ 10 ∷ 13 ∷ 12 ∷ []) (pick_tests code J c.out c.work) (pick code J) c
  pub rebuild : (code : Code) (J us : List ℕ) (c : Call) → Of (rebuild_outcome code J us) c
      → Works (code_numbers ++ 8 ∷ 8 ∷ 8 ∷ 8 ∷ 9 ∷ 10 ∷ 11 ∷ 13 ∷ 12 ∷ 14 ∷ []) (rebuild_tests code J us c.out c.work) (systematic_word code J us) c
  -- Correct, with "the count of places changed"
  pub correct : (code : Code) (w : List ℕ) (c : Call) → Of (correct_outcome code w) c
      → WorksWith (Counted (distance (corrected code w) w)) (code_numbers ++ 8 ∷ 8 ∷ 8 ∷ 11 ∷ 21 ∷ []) (correct_tests code w c.out c.work) (corrected code w) c
  -- Best, which is lent the three figures too
  pub best : (code : Code) (received trusts : List ℕ) (budget : ℕ) (c : BestCall) → OfBest code received trusts budget c → BestAnswers code received trusts budget c
  -- the job sheet: its answer's number, and the text in the lent buffer
  pub job : (job : Sheet) → let ts = job_tests (code_for job.head) job.places job.message in
      (numbers ts ≡ code_numbers ++ 8 ∷ 8 ∷ 9 ∷ 10 ∷ 11 ∷ 12 ∷ []) × (answer (job_outcome job) ≡ first ts)
  pub sheet : (s : List ℕ) (r : Answer) (old new : List ℕ) → AnswersSheet s old r new
      → Answers (8 ∷ []) (sheet_tests old) r old new (Listed (answer_to s) r old new)
