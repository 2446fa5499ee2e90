-- The run over the first k − 1 points, and the last one where L is not zero.
use mathlib.Core.Path.{sym, ◌∙◌}
use native.Mathlib.Omega.{arith}
use Rattle.solving.proofs.Link.{accepted}
use Rattle.solving.proofs.Free.{not_free, last_in}
use Rattle.solving.proofs.Arranged.{few, laid_points, laid_low, laid_high, arranged_coordinates, arranged_runs, laid_zero}
use Rattle.solving.proofs.Interpolant.{unsolved, solves_shown}
use Rattle.solving.proofs.solve_word.solve_laid.Goals as goal

pub overflow_sub-count : goal.overflow_sub-count
overflow_sub-count c = omega (arith, (accepted c.requires.posed.0.placed).k_least)

pub run-n-requires : goal.run-n-requires
run-n-requires c =
    record { coordinates = (arranged_coordinates c.requires.posed.0.placed c.requires.posed.1.firsts c.requires.posed.1.seconds, c.requires.posed.1.ones, c.requires.posed.2); runs_with = (arranged_runs c.requires.posed.0.placed c.requires.posed.1.firsts c.requires.posed.1.seconds _ c.requires.posed.0.are_symbols _ (omega arith) (omega (arith, c.requires.posed.0.at_least)), omega (arith, c.requires.posed.0.lengths, c.requires.posed.0.at_least)) }

pub zero_chosen-zero-requires : goal.zero_chosen-zero-requires
zero_chosen-zero-requires c =
    let a = accepted c.requires.posed.0.placed in
    (omega (arith, a.k_least, a.k_most, laid_low c.requires.posed.0.placed c.requires.posed.1, c.run-n.auto.l), omega (arith, a.k_least, a.k_most, laid_high c.requires.posed.0.placed c.requires.posed.1, c.run-n.auto.u))

pub last_index-last-requires : goal.last_index-last-requires
last_index-last-requires c = (accepted c.requires.posed.0.placed).k_least

pub returns-then-last-places : goal.returns-then-last-places
returns-then-last-places c =
    let g = c.requires.posed.0 in
    unsolved (not_free g.placed _ g.are_symbols g.at_least (laid_zero g c.requires.posed.1 c.run-n.new.l c.run-n.new.u c.run-n.result c.run-n.ensures.0 c.zero_chosen-zero.ensures) (sym c.last_index-last.ensures ∙ c.if-last-places.true))

pub correct_at-requires : goal.correct_at-requires
correct_at-requires c =
    let g = c.requires.posed.0 in
    let last = last_in g (laid_zero g c.requires.posed.1 c.run-n.new.l c.run-n.new.u c.run-n.result c.run-n.ensures.0 c.zero_chosen-zero.ensures) c.last_index-last.ensures c.if-last-places.false in
    let long = laid_points g.placed c.requires.posed.1 in
    record {
      index_in_bounds = (
        omega (arith, last, few g.placed, long, c.requires.posed.2, c.run-n.auto.f),
        omega (arith, laid_low g.placed c.requires.posed.1, long, c.requires.posed.2, c.run-n.auto.l, c.run-n.auto.f),
        omega (arith, laid_high g.placed c.requires.posed.1, long, c.requires.posed.2, c.run-n.auto.u, c.run-n.auto.f),
      );
    }

pub put_symbols-requires : goal.put_symbols-requires
put_symbols-requires c =
    let g = c.requires.posed.0 in
    (omega (arith, g.lengths, g.at_least), omega (arith, g.at_least, few g.placed, laid_points g.placed c.requires.posed.1, c.requires.posed.2, c.run-n.auto.f, c.correct_at.auto.f))

pub returns : goal.returns
returns c =
    let g = c.requires.posed.0 in
    let says = laid_zero g c.requires.posed.1 c.run-n.new.l c.run-n.new.u c.run-n.result c.run-n.ensures.0 c.zero_chosen-zero.ensures in
    solves_shown g.placed _ g.are_symbols g.at_least says (λ e. c.if-last-places.false (c.last_index-last.ensures ∙ e)) c.last_index-last.ensures c.requires.posed.1.firsts c.requires.posed.1.seconds c.run-n.new.l c.run-n.new.u c.run-n.result g.lengths c.run-n.ensures.0 c.run-n.ensures.1 c.message_symbol-v.ensures c.correct_at.ensures c.put_symbols.ensures
