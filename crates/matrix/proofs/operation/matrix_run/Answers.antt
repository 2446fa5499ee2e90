-- The parts of the arrays that are as long as there are points.
use mathlib.Core.Path.{sym}
use lib.Seq.{length-take-le}
use Rattle.solving.proofs.Link.{accepted}
use Rattle.matrix.proofs.operation.matrix_run.Goals as goal

pub slice_bounds-px-end : goal.slice_bounds-px-end
slice_bounds-px-end c = (accepted c.requires.placed.0).n_most

pub slice_bounds-matrix_in-end : goal.slice_bounds-matrix_in-end
slice_bounds-matrix_in-end c = sym (length-take-le _ _ (accepted c.requires.placed.0).n_most)

pub slice_bounds-l-end : goal.slice_bounds-l-end
slice_bounds-l-end c = (accepted c.requires.placed.0).n_most

pub slice_bounds-matrix_in-end-2 : goal.slice_bounds-matrix_in-end-2
slice_bounds-matrix_in-end-2 c = sym (length-take-le _ _ (accepted c.requires.placed.0).n_most)

pub slice_bounds-u-end : goal.slice_bounds-u-end
slice_bounds-u-end c = (accepted c.requires.placed.0).n_most

pub slice_bounds-matrix_in-end-3 : goal.slice_bounds-matrix_in-end-3
slice_bounds-matrix_in-end-3 c = sym (length-take-le _ _ (accepted c.requires.placed.0).n_most)

pub slice_bounds-a-end : goal.slice_bounds-a-end
slice_bounds-a-end c = (accepted c.requires.placed.0).n_most

pub slice_bounds-matrix_in-end-4 : goal.slice_bounds-matrix_in-end-4
slice_bounds-matrix_in-end-4 c = sym (length-take-le _ _ (accepted c.requires.placed.0).n_most)

pub slice_bounds-b-end : goal.slice_bounds-b-end
slice_bounds-b-end c = (accepted c.requires.placed.0).n_most

pub slice_bounds-matrix_in-end-5 : goal.slice_bounds-matrix_in-end-5
slice_bounds-matrix_in-end-5 c = sym (length-take-le _ _ (accepted c.requires.placed.0).n_most)

pub matrix_in-requires : goal.matrix_in-requires
matrix_in-requires c =
    let most = (accepted c.requires.placed.0).n_most in
    record { placed = (c.requires.placed.0, c.requires.placed.1, record { points = length-take-le _ _ most; lows = length-take-le _ _ most; highs = length-take-le _ _ most; firsts = length-take-le _ _ most; seconds = length-take-le _ _ most }, c.requires.placed.2, c.requires.placed.3) }
