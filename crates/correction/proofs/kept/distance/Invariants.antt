-- The loop's invariant: d, and what is left, make the distance.
use mathlib.Core.Path.{◌≡◌}
use Prim.Native.Nat.{◌+◌, ◌≤◌}
use lib.ListN.{drop}
use Rattle.decoding.specs.Near.{distance}
use Rattle.correction.proofs.kept.distance.Given as goal

abbrev pub invariant-loop-i : goal.invariant-loop-i
invariant-loop-i l = (l.d ≤ l.i) × (l.d + distance (drop l.i l.w) (drop l.i l.r) ≡ distance l.w l.r)
