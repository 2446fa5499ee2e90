-- The tests of each operation, in the order of documents 01 and 02. A test stands with the refusal where it fails; the code's tests come first.
use Rattle.std.specs.Prelude.{ℕ, ◌*◌, Bool, not, cond, ◌&&◌, List, [], ◌∷◌, ◌++◌, map, eqb, leb, ℤ, length}
use Rattle.basics.specs.declared.Refusal.{Refusal}
use Rattle.basics.specs.declared.Refusal.TheVariants.{FieldNumber, CurveCoefficient, Singular, PointCount, OffCurve, RepeatedPoint, Dimension}
use Rattle.basics.specs.declared.Refusal.TheVariants.{Length, Place, RepeatedPlace, Symbol, Dependent, TooFew, NoCodeword, Independent}
use Rattle.basics.specs.declared.Refusal.TheVariants.{Reading, NeverPacked, StampOrder, Hour, TooFar, NoRun, Budget}
use Rattle.basics.specs.Bits.{is_word}
use Rattle.basics.specs.Lists.{all}
use Rattle.basics.specs.Outcome.{Answer, Done, Refused, number}
use Rattle.field.specs.Galois.{is_field, size, width, galois}
use Rattle.elliptic.specs.declared.Curve.{Curve}
use Rattle.elliptic.specs.Curve as curves
use Rattle.elliptic.specs.Curve.{singular}
use Rattle.codewords.specs.Code.{Code, n, coefficients_below, smooth, right_count, all_on_curve, all_different, right_dimension}
use Rattle.codewords.specs.Codewords.{all_places, places_differ, symbols, codeword, agreed, dependent, usable}
use Rattle.curve.specs.Points.{room as pointRoom}
use Rattle.code.specs.Heard.{none_past}
use Rattle.hours.specs.Means.{increasing, in_hours, in_range}
use Rattle.hours.specs.Packing.{capacity, valid, clean}
use Rattle.rolling.specs.State.{possible, continues}
use Rattle.rolling.specs.Bytes.{state_from}
use Rattle.sheet.specs.Job.{room as sheetRoom}
use Rattle.solving.specs.Tests.{room}
use Rattle.decoding.specs.Near.{correctable}
use Rattle.best.specs.Outcomes.{is_budget}

pub record Test : Type 0 where
  pub holds : Bool
  pub refusal : Refusal

abbrev test : Bool → Refusal → Test
test b e = record { holds = b; refusal = e }

-- the first refusal whose test fails, or Done
abbrev pub first : List Test → Answer
first [] = Done
first (t ∷ ts) = cond t.holds (first ts) (Refused t.refusal)

-- the tests' numbers
abbrev pub numbers : List Test → List ℕ
numbers ts = map (λ t. number t.refusal) ts

-- ---- Points and Means

abbrev pub points_tests : ℕ → Curve → List ℕ → List ℕ → List Test
points_tests m C xs ys =
    test (is_field m) FieldNumber ∷ test (curves.coefficients_below (size m) C) CurveCoefficient ∷ test (not (singular (galois m) C)) Singular
    ∷ test (eqb (length xs) pointRoom && eqb (length ys) pointRoom) Length ∷ []

abbrev pub means_tests : List ℕ → List ℤ → ℕ → ℕ → List Test
means_tests ts rs first H =
    test (eqb (length ts) (length rs) && leb H 153) Length ∷ test (leb first 71000000) Hour ∷ test (increasing ts) StampOrder
    ∷ test (all (in_hours first H) ts) Hour ∷ test (all in_range rs) Reading ∷ []

-- ---- the rolling mean

abbrev length_test : {A : Type 0} → List A → ℕ → Test
length_test l size = test (eqb (length l) size) Length

abbrev pub fresh_tests : List ℕ → List Test
fresh_tests state = length_test state 64 ∷ []

-- Rolling: "16 as Pack does and then .. 22"
abbrev pub rolling_tests : List ℕ → ℕ → ℤ → List ℤ → List Test
rolling_tests state n z out =
    let s = state_from state in
    length_test state 64 ∷ length_test out 1 ∷ test (valid z) Reading ∷ test (possible s) NoRun ∷ test (continues s.next n) NoRun ∷ []

-- ---- the others: the code, then lengths, places and symbols

module _ (code : Code) where
  abbrev pub code_tests : List Test
  code_tests =
      test (is_field code.field) FieldNumber ∷ test (coefficients_below code) CurveCoefficient ∷ test (smooth code) Singular ∷ test (right_count code) PointCount
      ∷ test (all_on_curve code) OffCurve ∷ test (all_different code) RepeatedPoint ∷ test (right_dimension code) Dimension ∷ []

  abbrev place_tests : List ℕ → List Test
  place_tests J = test (all_places code J) Place ∷ test (places_differ code J) RepeatedPlace ∷ []

  abbrev symbol_test : List ℕ → Test
  symbol_test us = test (symbols code us) Symbol

  -- an output of its length, and room to work
  abbrev lent_tests : ℕ → List ℕ → List ℕ → List Test
  lent_tests size out work = length_test out size ∷ test (leb room (length work)) Length ∷ []

  -- Plain, Pack, Unpack and Heard; H is the length of the list of means
  abbrev pub plain_tests : List ℕ → List ℕ → List Test
  plain_tests f out = code_tests ++ length_test f code.k ∷ length_test out (n code) ∷ symbol_test f ∷ []

  abbrev pub pack_tests : List ℤ → List ℕ → List Test
  pack_tests means out =
      code_tests ++ length_test out code.k ∷ length_test means (capacity (width code.field) (length out)) ∷ test (all valid means) Reading ∷ []

  abbrev pub unpack_tests : List ℕ → List ℤ → List Test
  unpack_tests block out =
      code_tests ++ length_test block code.k ∷ length_test out (capacity (width code.field) (length block))
      ∷ test (all (is_word (width code.field)) block) Symbol ∷ test (clean (width code.field) block (length out)) NeverPacked ∷ []

  abbrev pub heard_tests : List ℕ → List ℕ → List Test
  heard_tests mask out = code_tests ++ length_test mask 40 ∷ length_test out 288 ∷ test (none_past mask (n code)) Place ∷ []

  -- Recover, Systematic function and Systematic word, Matrix, Relation
  abbrev pub recover_tests : List ℕ → List ℕ → List ℕ → List Test
  recover_tests w out work = code_tests ++ length_test w (n code) ∷ lent_tests code.k out work ++ symbol_test w ∷ test (codeword code w) NoCodeword ∷ []

  abbrev pub systematic_tests : ℕ → List ℕ → List ℕ → List ℕ → List ℕ → List Test
  systematic_tests size J msg out work =
      code_tests ++ length_test J code.k ∷ length_test msg code.k ∷ lent_tests size out work ++ place_tests J ++ symbol_test msg ∷ test (usable code J) Dependent ∷ []

  abbrev pub matrix_tests : List ℕ → List ℕ → List ℕ → List Test
  matrix_tests J out work =
      code_tests ++ length_test J code.k ∷ lent_tests (code.k * n code) out work ++ place_tests J ++ test (usable code J) Dependent ∷ []

  abbrev pub relation_tests : List ℕ → List ℕ → List ℕ → List Test
  relation_tests J out work = code_tests ++ length_test J code.k ∷ lent_tests code.k out work ++ place_tests J ++ test (dependent code J) Independent ∷ []

  -- Pick and Rebuild of s places: 13 if s is below k, 12 if s = k and they are dependent
  abbrev enough_tests : List ℕ → List Test
  enough_tests J = test (leb code.k (length J)) TooFew ∷ test (not (eqb (length J) code.k && dependent code J)) Dependent ∷ []

  abbrev pub pick_tests : List ℕ → List ℕ → List ℕ → List Test
  pick_tests J out work = code_tests ++ test (leb (length J) (n code)) Length ∷ lent_tests code.k out work ++ place_tests J ++ enough_tests J

  abbrev pub rebuild_tests : List ℕ → List ℕ → List ℕ → List ℕ → List Test
  rebuild_tests J us out work =
      code_tests ++ test (leb (length J) (n code)) Length ∷ length_test us (length J) ∷ lent_tests (n code) out work ++ place_tests J
      ++ symbol_test us ∷ enough_tests J ++ test (agreed code J us) NoCodeword ∷ []

  -- Correct: "21, after code, 8 and 11"
  abbrev pub correct_tests : List ℕ → List ℕ → List ℕ → List Test
  correct_tests r out work = code_tests ++ length_test r (n code) ∷ lent_tests (n code) out work ++ symbol_test r ∷ test (correctable code r) TooFar ∷ []

  -- Best: "23, after code, 8 and 11"
  abbrev pub best_tests : List ℕ → List ℕ → ℕ → List ℕ → List ℕ → List ℕ → List Test
  best_tests received trusts budget out figures work =
      code_tests ++ length_test received (n code) ∷ length_test trusts (n code) ∷ length_test out (n code) ∷ lent_tests 3 figures work
      ++ symbol_test received ∷ test (is_budget budget) Budget ∷ []

  -- the job of a sheet: Systematic function and Systematic word in one, without lent lists
  abbrev pub job_tests : List ℕ → List ℕ → List Test
  job_tests J msg = code_tests ++ length_test J code.k ∷ length_test msg code.k ∷ place_tests J ++ symbol_test msg ∷ test (usable code J) Dependent ∷ []

-- the text of the answer to a sheet
abbrev pub sheet_tests : List ℕ → List Test
sheet_tests out = test (leb sheetRoom (length out)) Length ∷ []
