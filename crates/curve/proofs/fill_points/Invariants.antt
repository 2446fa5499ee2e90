-- The invariant: the points with X below x are listed.
use Rattle.basics.specs.Lists.{filter}
use Rattle.field.specs.Galois.{size, galois}
use Rattle.elliptic.specs.Curve.{columns, on_curve}
use Rattle.curve.specs.Listing.{Listed}
use Rattle.curve.proofs.fill_points.Given as goal

abbrev pub invariant-loop-x : goal.invariant-loop-x
invariant-loop-x l = Listed (filter (on_curve (galois l.field.number) l.c) (columns (size l.field.number) l.x)) l.initial.xs l.initial.ys l.xs l.ys l.count
