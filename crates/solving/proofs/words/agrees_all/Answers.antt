-- The engine's comparison at the points of the places.
use mathlib.Core.Path.{◌∙◌, ap}
use mathlib.Core.List.{map}
use native.Mathlib.Omega.{arith}
use lib.ListN.{length, take}
use Rattle.basics.specs.Lists.{same}
use Rattle.field.specs.Galois.{galois}
use Rattle.elliptic.specs.Pair.{evaluate}
use Rattle.solving.proofs.Link.{within, points_same}
use Rattle.solving.proofs.words.agrees_all.Goals as goal

pub agrees-requires : goal.agrees-requires
agrees-requires c =
    record { within = (within c.requires.placed (length c.args.places.now) (omega arith), c.requires.k_in_bounds.1) }

pub returns : goal.returns
returns c =
    c.agrees.ensures ∙ ap (λ l. same (map (evaluate (galois c.args.code.now.field.now.number) (take c.args.code.now.k c.args.f.now)) l) c.args.symbols.now) (points_same c.requires.placed)
