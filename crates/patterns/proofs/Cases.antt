-- The small cases, by computation.
use mathlib.Core.Path.{refl}
use Rattle.field.specs.Sum.{◌⊕◌}
use Rattle.field.specs.Galois.{rows, modulus, width, size, product}
use Rattle.field.specs.Polynomial.{digits, horner, clmul, times_x, reduce, mul}
use Rattle.elliptic.specs.Functions.{monomial, sum_from, value}
use Rattle.codewords.specs.Code.{points_at}
use Rattle.codewords.specs.Codewords.{extended, all_lists, the, symbol_at, agrees, functions, word, codewords, agreeing, agreed, systematic_word, takes_all, keep, pick}
use Rattle.codewords.specs.Cases.{A}
use Rattle.patterns.specs.Ranking.{insert, ranking}
use Rattle.patterns.specs.Patterns.{down, amounts, singles, pair, pairs, patterns}
use Rattle.patterns.specs.Cheapest.{differing, cheaper, cheapest, least, gap_to}
use Rattle.patterns.specs.Best.{entries, changed, cost, picked, tried, tries_made, untried, word_of, weight, best, best_cost, gap}
use Rattle.patterns.specs.Computed.{single_left, pair_below, pair_left, triple_left, least_left}
use Rattle.patterns.specs.Cases.{Cases}

pub cases : Cases
unfolding A ◌⊕◌ rows modulus width size product digits horner clmul times_x reduce mul monomial sum_from value points_at extended all_lists the symbol_at agrees functions word codewords agreeing agreed systematic_word takes_all keep pick insert ranking down amounts singles pair pairs patterns differing cheaper cheapest least gap_to entries changed cost picked tried tries_made untried word_of weight best best_cost gap single_left pair_below pair_left triple_left least_left
cases =
    record {
      ranked = refl;
      patterns_1 = refl;
      patterns_2 = refl;
      patterns_4 = refl;
      picked_1 = refl;
      best_1_1 = refl;
      figures_1_1 = refl;
      best_1_2 = refl;
      figures_1_2 = refl;
      figures_1_5 = refl;
      picked_2 = refl;
      best_2_2 = refl;
      figures_2_2 = refl;
      figures_2_5 = refl;
      figures_2_15 = refl;
      figures_2_16 = refl;
      picked_3 = refl;
      best_3_4 = refl;
      figures_3_1 = refl;
      figures_3_4 = refl;
      figures_3_37 = refl;
      picked_skip = refl;
      best_skip = refl;
      figures_skip = refl;
      figures_pair = refl;
      left_start = refl;
      left_last_single = refl;
      left_pair = refl;
      left_last_pair = refl;
      left_none = refl;
      left_two = refl;
    }
