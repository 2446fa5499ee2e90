-- The run over the first k − 1 places, and the last one where L is not zero.
use Prim.Native.Nat.{◌-◌}
use mathlib.Core.Path.{sym, ◌∙◌}
use native.Mathlib.Omega.{arith}
use lib.ListN.{length}
use Rattle.basics.proofs.Lists.{holds_length}
use Rattle.solving.proofs.Link.{accepted, within, may_run, sizes, zero_last, has_room}
use Rattle.solving.proofs.Free.{not_free, last_lt}
use Rattle.solving.proofs.Interpolant.{unsolved, solves}
use Rattle.solving.proofs.solve.solve_in.Goals as goal

pub overflow_sub-count : goal.overflow_sub-count
overflow_sub-count c = omega (arith, (accepted c.requires.posed.0.placed).k_least)

pub run-n-requires : goal.run-n-requires
run-n-requires c =
    let g = c.requires.posed.0 in
    record { runs = (may_run g.placed _ g.are_symbols _ (omega arith) (omega (arith, g.at_least)), c.requires.posed.1, omega (arith, g.lengths, g.at_least), c.requires.posed.2) }

pub chosen_place-place-requires : goal.chosen_place-place-requires
chosen_place-place-requires c = omega (arith, c.requires.posed.0.at_least, (accepted c.requires.posed.0.placed).k_least)

pub zero_at-zero-requires : goal.zero_at-zero-requires
zero_at-zero-requires c =
    let g = c.requires.posed.0 in
    record { place = (rw c.chosen_place-place.ensures ((within g.placed _ g.at_least).each_is_place _ (omega (arith, (accepted g.placed).k_least))), (has_room g c.run-n.ensures (omega arith, omega arith) (omega arith)).0) }

pub last_index-last-requires : goal.last_index-last-requires
last_index-last-requires c = (accepted c.requires.posed.0.placed).k_least

pub returns-then-last-places : goal.returns-then-last-places
returns-then-last-places c =
    let g = c.requires.posed.0 in
    let says = zero_last g.placed _ g.are_symbols g.at_least c.run-n.ensures.pair c.chosen_place-place.ensures c.zero_at-zero.ensures in
    unsolved (not_free g.placed _ g.are_symbols g.at_least says (sym c.last_index-last.ensures ∙ c.if-last-places.true))

pub finish_at-requires : goal.finish_at-requires
finish_at-requires c =
    let g = c.requires.posed.0 in
    let last = last_lt g c.run-n.ensures.pair c.chosen_place-place.ensures c.zero_at-zero.ensures c.last_index-last.ensures c.if-last-places.false in
    let (fits, word_fits) = has_room g c.run-n.ensures (omega arith, omega arith) (omega arith) in
    let few = sizes g.placed _ g.are_symbols (c.args.code.now.k - 1) (omega (arith, g.at_least)) in
    let a = accepted g.placed in record {
      place = (
        rw c.chosen_place-at.ensures ((within g.placed (length c.args.places.now) (omega arith)).each_is_place _ last),
        fits,
        word_fits,
        omega (arith, a.k_least, holds_length c.run-n.ensures.pair.low, few.low_length),
        omega (arith, a.k_least, holds_length c.run-n.ensures.word, few.word_length),
        omega (arith, word_fits.long_word, a.k_most, a.n_most),
      );
    }

pub returns : goal.returns
returns c =
    let g = c.requires.posed.0 in
    let says = zero_last g.placed _ g.are_symbols g.at_least c.run-n.ensures.pair c.chosen_place-place.ensures c.zero_at-zero.ensures in
    solves g.placed _ g.are_symbols g.at_least says (λ e. c.if-last-places.false (c.last_index-last.ensures ∙ e)) c.last_index-last.ensures c.run-n.ensures c.chosen_place-at.ensures c.message_symbol-v.ensures c.finish_at.ensures
