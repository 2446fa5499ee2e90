-- The size of the field bounds the amounts; the three stores are all of the list.
use native.Mathlib.Omega.{arith}
use Rattle.best.proofs.Stores.{all_stored, amounts_least, amounts_most}
use Rattle.best.proofs.figures.write_figures.Goals as goal

pub overflow_sub-s : goal.overflow_sub-s
overflow_sub-s c = omega (arith, amounts_least c.requires.0 c.size-s.ensures)

pub tries_made-requires : goal.tries_made-requires
tries_made-requires c = (c.requires.2, amounts_most c.requires.0 c.size-s.ensures, c.requires.4)

pub gap-requires : goal.gap-requires
gap-requires c = (c.requires.1, c.requires.2, amounts_least c.requires.0 c.size-s.ensures, amounts_most c.requires.0 c.size-s.ensures)

pub returns : goal.returns
returns c =
    all_stored c.args.trusts.now c.args.places.now c.args.budget c.args.cost c.args.m c.args.figures.now c.requires.5 c.size-s.ensures c.tries_made.ensures c.gap.ensures
