-- The loop's invariant: the first i agree, so the rest decides.
use mathlib.Core.Path.{◌≡◌}
use mathlib.Core.List.{map}
use lib.ListN.{drop}
use Rattle.basics.specs.Lists.{same}
use Rattle.field.specs.Galois.{galois}
use Rattle.elliptic.specs.Pair.{evaluate}
use Rattle.engine.specs.Places.{points_of}
use Rattle.interpolation.proofs.write.agrees.Given as goal

abbrev pub invariant-loop-i : goal.invariant-loop-i
invariant-loop-i l = same (drop l.i (map (evaluate (galois l.field.number) l.f) (points_of l.xs l.ys l.places))) (drop l.i l.symbols) ≡ same (map (evaluate (galois l.field.number) l.f) (points_of l.xs l.ys l.places)) l.symbols
