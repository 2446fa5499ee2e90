-- The loop's invariant: the bits are below q exactly if all coordinates so far are, the first flag says that these points lie on the curve, and the second that no
-- slot of theirs was met twice.
use Prim.Native.Nat.{◌≤◌}
use mathlib.Core.Path.{◌≡◌}
use lib.Dec.{ltb}
use lib.ListN.{length}
use Rattle.basics.specs.Lists.{all, table}
use Rattle.field.specs.Galois.{size, galois}
use Rattle.elliptic.specs.Curve.{in_field, on_curve}
use Rattle.code.specs.Slots.{listed, slot_at}
use Rattle.code.proofs.Marking.{Marked}
use Rattle.code.proofs.test.pass_over.Given as goal

abbrev pub invariant-loop-i : goal.invariant-loop-i
invariant-loop-i l = (l.i ≤ length l.xs) × (length l.seen ≡ length l.initial.seen)
    × (ltb l.bits (size l.field.number) ≡ all (in_field (galois l.field.number)) (table (listed l.xs l.ys) l.i))
    × (l.on ≡ all (on_curve (galois l.field.number) l.c) (table (listed l.xs l.ys) l.i))
    × Marked (slot_at (galois l.field.number) l.c l.xs l.ys) l.seen l.i l.apart
