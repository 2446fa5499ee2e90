-- The parts of the arrays that are as long as the list of places that is looked at.
use mathlib.Core.Path.{sym}
use lib.Seq.{length-take-le}
use Rattle.solving.proofs.Link.{k_fits}
use Rattle.solving.proofs.last_zero.last_zero.Goals as goal

pub slice_bounds-gx-end : goal.slice_bounds-gx-end
slice_bounds-gx-end c = k_fits c.requires.placed.0

pub slice_bounds-last_zero_in-end : goal.slice_bounds-last_zero_in-end
slice_bounds-last_zero_in-end c = sym (length-take-le _ _ (k_fits c.requires.placed.0))

pub slice_bounds-l-end : goal.slice_bounds-l-end
slice_bounds-l-end c = k_fits c.requires.placed.0

pub slice_bounds-last_zero_in-end-2 : goal.slice_bounds-last_zero_in-end-2
slice_bounds-last_zero_in-end-2 c = sym (length-take-le _ _ (k_fits c.requires.placed.0))

pub slice_bounds-u-end : goal.slice_bounds-u-end
slice_bounds-u-end c = k_fits c.requires.placed.0

pub slice_bounds-last_zero_in-end-3 : goal.slice_bounds-last_zero_in-end-3
slice_bounds-last_zero_in-end-3 c = sym (length-take-le _ _ (k_fits c.requires.placed.0))

pub last_zero_in-requires : goal.last_zero_in-requires
last_zero_in-requires c =
    let fits = k_fits c.requires.placed.0 in
    record { placed = c.requires.placed; gx_len = (length-take-le _ _ fits, length-take-le _ _ fits, length-take-le _ _ fits) }
