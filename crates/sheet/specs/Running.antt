-- How what the stages of a job answer is read.
use Rattle.std.specs.Prelude.{ℕ, ◌≤◌, Bool, true, ◌≡◌, List, map, ltb, length, take, Result, Ok, Err, IfOk}
use Rattle.basics.specs.declared.Refusal.{Refusal}
use Rattle.basics.specs.declared.Refusal.TheVariants.{Dependent}
use Rattle.basics.specs.Lists.{all}
use Rattle.basics.specs.Outcome.{Done, Outcome, refused, accepted, check}
use Rattle.field.specs.Galois.{galois}
use Rattle.elliptic.specs.Curve.{affine_points, coefficients_of}
use Rattle.codewords.specs.declared.Parameters.{Parameters}
use Rattle.codewords.specs.Code.{Code, code_of, code_answer}
use Rattle.codewords.specs.Codewords.{all_places, places_differ, symbols, systematic_function, systematic_word, usable}
use Rattle.solving.specs.Tests.{check_length, check_places, check_symbols}
use Rattle.text.specs.declared.sheet.Head.{Head}
use Rattle.text.specs.Reading.{Sheet}
use Rattle.sheet.specs.Job.{curve_of}

-- a function of k coefficients and a word of n symbols
abbrev pub Solution : Type 0
Solution = List ℕ × List ℕ

abbrev pub job_of : Head → List ℕ → List ℕ → Sheet
job_of h J msg = record { head = h; places = J; message = msg }

abbrev pub parameters_of : Head → Parameters
parameters_of h = record { field = h.field; curve = curve_of h; k = h.k }

-- the coefficients fit bytes
abbrev pub small : Head → Bool
small h = all (λ g. ltb g 256) (coefficients_of (curve_of h))

-- the last test, and the result
abbrev pub solving : Code → List ℕ → List ℕ → Outcome Solution
solving code J msg = check (usable code J) Dependent (accepted (systematic_function code J msg, systematic_word code J msg))

-- the tests behind the code test
abbrev pub after_code : Code → List ℕ → List ℕ → Outcome Solution
after_code code J msg = check_length J code.k (check_length msg code.k (check_places code J (check_symbols code msg (solving code J msg))))

-- the code of all points of a curve
abbrev pub over_points : Parameters → Code
over_points p =
    let points = affine_points (galois p.field) p.curve in
    code_of p (map (λ P. P.x) points) (map (λ P. P.y) points)

-- every test but the last was passed
pub record Solvable (code : Code) (J msg : List ℕ) : Type 0 where
  pub done : code_answer code ≡ Done
  pub places_many : length J ≡ code.k
  pub symbols_many : length msg ≡ code.k
  pub are_all_places : all_places code J ≡ true
  pub differ : places_differ code J ≡ true
  pub are_symbols : symbols code msg ≡ true

-- what is answered where the result stands at the front of two buffers: n is the length of the word
abbrev pub ran : ℕ → List ℕ → List ℕ → Result ℕ Refusal → Outcome Solution
ran k f w (Ok n) = accepted (take k f, take n w)
ran k f w (Err e) = refused e

pub record Runs (o : Outcome Solution) (k : ℕ) (f w : List ℕ) (r : Result ℕ Refusal) : Type 0 where
  pub outcome : ran k f w r ≡ o
  pub within : IfOk r (λ n. (k ≤ 288) × (n ≤ 288))

-- room for a function and a word
abbrev pub Rooms : List ℕ → List ℕ → Type 0
Rooms f w = (length f ≡ 288) × (length w ≡ 288)
