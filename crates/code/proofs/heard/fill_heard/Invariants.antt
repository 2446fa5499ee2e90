-- The loop's invariant: the places of the first i words stand at the front of the buffer.
use Prim.Native.Nat.{◌*◌, ◌≤◌}
use Rattle.basics.proofs.Loops.{Appended}
use Rattle.code.specs.Heard.{heard_places}
use Rattle.code.proofs.heard.fill_heard.Given as goal

abbrev pub invariant-loop-i : goal.invariant-loop-i
invariant-loop-i l = (l.i ≤ 5) × Appended (heard_places l.mask (64 * l.i)) l.initial.out l.out l.count
