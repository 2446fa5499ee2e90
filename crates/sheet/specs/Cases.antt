-- Document 01's case, whole, short sheets that are refused, and field numbers.
use Rattle.std.specs.Prelude.{ℕ, ◌+◌, Bool, true, false, ◌≡◌, List, [], ◌∷◌, ◌++◌, map, replicate, take, drop}
use Prim.Native.String.{String}
use Rattle.basics.specs.Lists.{all}
use Rattle.text.specs.Text.{bytes}
use Rattle.text.specs.Reading.{Read, bad, got, Sheet, sheet}
use Rattle.text.specs.Valid.{sheet_text}
use Rattle.sheet.specs.Job.{answer_to}

-- a text by its lines
abbrev pub text_of : List String → List ℕ
text_of [] = []
text_of (l ∷ lines) = bytes l ++ text_of lines

-- "Case, whole"
abbrev pub case_lines : List String
case_lines =
    "field=2\n" ∷
    "curve=0,0,1,0,0\n" ∷
    "dimension=5\n" ∷
    "places=1,2,3,5,8\n" ∷
    "message=1,0,0,0,0\n" ∷
    []

unfoldable pub case_sheet : List ℕ
case_sheet = text_of case_lines

-- "it writes, whole"
unfoldable pub case_answer : List ℕ
case_answer = text_of ("answer=0\n" ∷ "function=1,0,1,2,3\n" ∷ "word=1,0,0,2,0,0,3,0\n" ∷ [])

unfoldable pub misshapen : List ℕ
misshapen = bytes "answer=20\n"

-- the numbers of the case
unfoldable pub case_job : Sheet
case_job =
    record {
      head = record { field = 2; g1 = 0; g2 = 0; g3 = 1; g4 = 0; g6 = 0; k = 5 };
      places = 1 ∷ 2 ∷ 3 ∷ 5 ∷ 8 ∷ [];
      message = 1 ∷ 0 ∷ 0 ∷ 0 ∷ 0 ∷ [];
    }

-- the case with another text for its i-th line, from 0 on
abbrev pub but_for : ℕ → String → List ℕ
but_for i l = text_of (take i case_lines ++ l ∷ drop (i + 1) case_lines)

-- sheets of another shape
unfoldable pub damaged : List (List ℕ)
damaged =
    -- a line is missing
    but_for 2 "" ∷
    -- a line more
    but_for 4 "message=1,0,0,0,0\nmessage=1,0,0,0,0\n" ∷
    -- a space
    but_for 0 "field= 2\n" ∷
    -- a carriage return
    but_for 0 "field=2\r\n" ∷
    -- a sign
    but_for 0 "field=+2\n" ∷
    -- a needless zero
    but_for 0 "field=02\n" ∷
    -- a number that is too large
    but_for 2 "dimension=65536\n" ∷
    -- an empty list
    but_for 4 "message=\n" ∷
    -- four coefficients
    but_for 1 "curve=0,0,1,0\n" ∷
    -- no last line end
    but_for 4 "message=1,0,0,0,0" ∷
    []

abbrev pub is_bad : Read Sheet → Bool
is_bad bad = true
is_bad (got job rest) = false

-- the answers of a sheet with each of these for its field number (request S-4): 265 is not 9
unfoldable pub outside_fields : List (List ℕ)
outside_fields = map (λ l. answer_to (but_for 0 l)) ("field=0\n" ∷ "field=1\n" ∷ "field=10\n" ∷ "field=256\n" ∷ "field=265\n" ∷ "field=65535\n" ∷ [])

-- a sheet of field 9 whose third coefficient is not below q = 256
unfoldable pub with_field9 : List ℕ
with_field9 = text_of ("field=9\n" ∷ "curve=0,0,256,0,0\n" ∷ drop 2 case_lines)

-- a sheet with so many places
unfoldable pub with_places : ℕ → List ℕ
with_places n = sheet_text (record { head = case_job.head; places = replicate n 1; message = 1 ∷ [] })

pub record SheetCases : Type 0 where
  pub whole : answer_to case_sheet ≡ case_answer
  pub as_written : sheet_text case_job ≡ case_sheet
  pub of_another_shape : all (λ s. is_bad (sheet s)) damaged ≡ true
  -- "a list that is empty or above 288 numbers"
  pub most_places : is_bad (sheet (with_places 288)) ≡ false
  pub too_many_places : is_bad (sheet (with_places 289)) ≡ true
  -- "Refusal 1 is given outside 2 to 9, and the job sheet accepts field=9": what is wrong with that sheet is the coefficient
  pub no_field : outside_fields ≡ replicate 6 (bytes "answer=1\n")
  pub field_9 : answer_to with_field9 ≡ bytes "answer=2\n"
  -- no byte at all
  pub nothing : answer_to [] ≡ misshapen
