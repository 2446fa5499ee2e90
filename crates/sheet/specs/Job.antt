-- What a sheet asks for, and the text of the answer.
use Rattle.std.specs.Prelude.{ℕ, ◌≤◌, List, [], ◌∷◌, ◌++◌, map, leb, length}
use Rattle.basics.specs.declared.Refusal.TheVariants.{Length, Dependent, SheetShape}
use Rattle.basics.specs.Lists.{written}
use Rattle.basics.specs.Outcome.{Answer, Outcome, refused, accepted, counted, check, number, counts, Meets}
use Rattle.field.specs.Galois.{galois}
use Rattle.elliptic.specs.declared.Curve.{Curve}
use Rattle.elliptic.specs.declared.Point.{Point}
use Rattle.elliptic.specs.Curve.{affine_points}
use Rattle.codewords.specs.Code.{Code, check_code}
use Rattle.codewords.specs.Codewords.{systematic_function, systematic_word, usable}
use Rattle.solving.specs.Tests.{check_length, check_places, check_symbols}
use Rattle.text.specs.declared.sheet.Head.{Head}
use Rattle.text.specs.Text.{answer_key, function_key, word_key, line_of}
use Rattle.text.specs.Reading.{Read, bad, got, Sheet, sheet}

abbrev pub curve_of : Head → Curve
curve_of h = record { g1 = h.g1; g2 = h.g2; g3 = h.g3; g4 = h.g4; g6 = h.g6 }

-- the points are those of Points: all affine points of the curve
abbrev pub points_of : Head → List Point
points_of h = affine_points (galois h.field) (curve_of h)

-- the code of a sheet. Its numbers are as they stand there, whatever a type of the coder can hold: one that is too large fails the test that it belongs to
unfoldable pub code_for : Head → Code
code_for h = record { field = h.field; curve = curve_of h; xs = map (λ P. P.x) (points_of h); ys = map (λ P. P.y) (points_of h); k = h.k }

-- Systematic function and Systematic word: code; 8; 9; 10; 11; 12
abbrev pub outcome_over : Code → List ℕ → List ℕ → Outcome (List ℕ × List ℕ)
outcome_over code J msg =
    check_code code
    (check_length J code.k (check_length msg code.k
    (check_places code J (check_symbols code msg
    (check (usable code J) Dependent
    (accepted (systematic_function code J msg, systematic_word code J msg)))))))

unfoldable pub job_outcome : Sheet → Outcome (List ℕ × List ℕ)
job_outcome job = outcome_over (code_for job.head) job.places job.message

-- a sheet of another shape gives 20
unfoldable pub outcome_of : Read Sheet → Outcome (List ℕ × List ℕ)
outcome_of bad = refused SheetShape
outcome_of (got job rest) = job_outcome job

-- the answer: a refusal's number alone, or 0 with the function and its codeword
unfoldable pub accepting : List ℕ → List ℕ → List ℕ
accepting f w = line_of answer_key (0 ∷ []) ++ (line_of function_key f ++ line_of word_key w)

unfoldable pub answer_text : Outcome (List ℕ × List ℕ) → List ℕ
answer_text (refused e) = line_of answer_key (number e ∷ [])
answer_text (accepted (f, w)) = accepting f w
answer_text (counted n (f, w)) = accepting f w

-- the answer to any bytes
abbrev pub answer_to : List ℕ → List ℕ
answer_to s = answer_text (outcome_of (sheet s))

-- no answer is longer; a shorter buffer is refused
abbrev pub room : ℕ
room = 4096

-- the answer at the front of the lent buffer, and its length
unfoldable pub sheet_outcome : List ℕ → List ℕ → Outcome (List ℕ)
sheet_outcome s out = check (leb room (length out)) Length (counted (length (answer_to s)) (written (answer_to s) out))

-- what a sheet is answered with, and that the count is within the room
pub record Answers (s old : List ℕ) (r : Answer) (new : List ℕ) : Type 0 where
  pub meets : Meets (sheet_outcome s old) r old new
  pub few : counts r ≤ room
