-- The invariant: the solutions below y are appended. At the end they are the points over x.
use Rattle.basics.specs.Lists.{filter, table}
use Rattle.elliptic.specs.Curve.{point}
use Rattle.curve.specs.Listing.{Appends}
use Rattle.curve.proofs.Equation.{solution}
use Rattle.curve.proofs.append_column.Given as goal

abbrev pub invariant-loop-y : goal.invariant-loop-y
invariant-loop-y l = Appends (filter (solution l.field.number l.t l.v) (table (point l.x) l.y)) l.initial.xs l.initial.ys l.start l.xs l.ys l.count
