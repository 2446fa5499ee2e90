-- The small cases, by computation.
use mathlib.Core.Path.{refl}
use Rattle.field.specs.Sum.{◌⊕◌}
use Rattle.field.specs.Field.{pow}
use Rattle.field.specs.Galois.{rows, modulus, width, size, product, inverse}
use Rattle.field.specs.Polynomial.{digits, horner, clmul, times_x, reduce, mul}
use Rattle.elliptic.specs.Functions.{weight, monomial, sum_from, value}
use Rattle.elliptic.specs.Pair.{horner as hornerPair, evaluate, add_scaled, shifted, times_linear, raised, corrected as corrects, cancelled, stepped, kept, step as pairStep, after}
use Rattle.codewords.specs.Code.{points_at}
use Rattle.codewords.specs.Codewords.{extended, all_lists, symbol_at, point_at, functions, word, codewords}
use Rattle.codewords.specs.Computed.{last_zero, last_index, solved}
use Rattle.codewords.specs.Cases.{A}
use Rattle.decoding.specs.Near.{distance, radius, within, near}
use Rattle.decoding.specs.Rows.{defect, lifted, mixed, turned, first_rows, least, pivot, step, rows_after, found, kept_places, kept_symbols, decoded, decodes}
use Rattle.decoding.specs.Cases.{SmallCases}

pub cases : SmallCases
unfolding A ◌⊕◌ rows modulus width size product inverse pow digits horner clmul times_x reduce mul weight monomial sum_from value hornerPair evaluate add_scaled shifted times_linear raised corrects cancelled stepped kept pairStep after points_at extended all_lists symbol_at point_at functions word codewords last_zero last_index solved distance radius within near defect lifted mixed turned first_rows least pivot step rows_after found kept_places kept_symbols decoded decodes
cases =
    record {
      radius_A = refl;
      distance_two = refl;
      near_two = refl;
      near_three = refl;
      kept_two = refl;
      decoded_two = refl;
      decodes_two = refl;
      decodes_three = refl;
      radius_seven = refl;
      decoded_seven = refl;
    }
