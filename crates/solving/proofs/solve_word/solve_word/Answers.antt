-- The parts of the arrays that are as long as the coordinates.
use mathlib.Core.Path.{sym}
use lib.Seq.{length-take-le}
use Rattle.solving.proofs.Link.{accepted}
use Rattle.solving.proofs.solve_word.solve_word.Goals as goal

pub slice_bounds-px-end : goal.slice_bounds-px-end
slice_bounds-px-end c = (accepted c.requires.posed.0.placed).n_most

pub slice_bounds-solve_word_in-end : goal.slice_bounds-solve_word_in-end
slice_bounds-solve_word_in-end c = sym (length-take-le _ _ (accepted c.requires.posed.0.placed).n_most)

pub slice_bounds-l-end : goal.slice_bounds-l-end
slice_bounds-l-end c = (accepted c.requires.posed.0.placed).n_most

pub slice_bounds-solve_word_in-end-2 : goal.slice_bounds-solve_word_in-end-2
slice_bounds-solve_word_in-end-2 c = sym (length-take-le _ _ (accepted c.requires.posed.0.placed).n_most)

pub slice_bounds-u-end : goal.slice_bounds-u-end
slice_bounds-u-end c = (accepted c.requires.posed.0.placed).n_most

pub slice_bounds-solve_word_in-end-3 : goal.slice_bounds-solve_word_in-end-3
slice_bounds-solve_word_in-end-3 c = sym (length-take-le _ _ (accepted c.requires.posed.0.placed).n_most)

pub slice_bounds-w-end : goal.slice_bounds-w-end
slice_bounds-w-end c = (accepted c.requires.posed.0.placed).n_most

pub slice_bounds-solve_word_in-end-4 : goal.slice_bounds-solve_word_in-end-4
slice_bounds-solve_word_in-end-4 c = sym (length-take-le _ _ (accepted c.requires.posed.0.placed).n_most)

pub solve_word_in-requires : goal.solve_word_in-requires
solve_word_in-requires c =
    let most = (accepted c.requires.posed.0.placed).n_most in
    record { posed = c.requires.posed; px_len = (length-take-le _ _ most, length-take-le _ _ most, length-take-le _ _ most, length-take-le _ _ most) }
