-- No more places are listed than bits were looked at.
use Prim.Native.Nat.{◌≤◌}
use Rattle.matrix_cases.proofs.heard.list_bits.Given as goal

abbrev pub invariant-loop-i : goal.invariant-loop-i
invariant-loop-i l = l.count ≤ l.i
