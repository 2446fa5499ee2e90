-- The cases, by computation.
use mathlib.Core.Path.{refl}
use Rattle.basics.specs.Outcome.{check}
use Rattle.field.specs.Sum.{◌⊕◌}
use Rattle.field.specs.Galois.{rows, modulus, width, size, product}
use Rattle.field.specs.Polynomial.{digits as binaryDigits, horner, clmul, times_x, reduce, mul}
use Rattle.elliptic.specs.Curve.{on_curve, singular_at, singular, affine_points}
use Rattle.elliptic.specs.Functions.{nonzero, monomial, sum_from, value}
use Rattle.codewords.specs.Code.{points_at, coefficients_below, smooth, right_count, all_on_curve, all_different, right_dimension}
use Rattle.codewords.specs.Codewords.{extended, all_lists, the, symbol_at, agrees, point_at, all_places, places_differ, symbols, functions, word, codewords, agreeing, agreeing_functions, systematic_word, systematic_function, zero_on, dependent, usable}
use Rattle.text.specs.Text.{digits, following, joined, line_of}
use Rattle.text.specs.Reading.{then, before, is_next, stripped, more, number, numbers, line, exactly, header, lists, sheet}
use Rattle.text.specs.Valid.{sheet_text}
use Rattle.sheet.specs.Job.{code_for, job_outcome, outcome_of, accepting, answer_text}
use Rattle.sheet.specs.Cases.{case_sheet, case_answer, misshapen, case_job, damaged, outside_fields, with_field9, with_places, SheetCases}

pub cases : SheetCases
unfolding case_sheet case_answer misshapen case_job damaged outside_fields with_field9 with_places check ◌⊕◌ rows modulus width size product binaryDigits horner clmul times_x reduce mul on_curve singular_at singular affine_points nonzero monomial sum_from value points_at coefficients_below smooth right_count all_on_curve all_different right_dimension extended all_lists the symbol_at agrees point_at all_places places_differ symbols functions word codewords agreeing agreeing_functions systematic_word systematic_function zero_on dependent usable digits following joined line_of then before is_next stripped more number numbers line exactly header lists sheet code_for job_outcome outcome_of accepting answer_text sheet_text
cases = record { whole = refl; as_written = refl; of_another_shape = refl; most_places = refl; too_many_places = refl; no_field = refl; field_9 = refl; nothing = refl }
