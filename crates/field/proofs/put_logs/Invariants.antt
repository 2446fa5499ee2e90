-- The loop makes a logarithm of each byte of the row.
use Prim.Native.Nat.{◌≤◌}
use mathlib.Core.Path.{◌≡◌}
use lib.Seq.{paste}
use Rattle.field.specs.Tables.{log_table}
use Rattle.field.proofs.put_logs.Given as goal

abbrev pub invariant-loop-i : goal.invariant-loop-i
invariant-loop-i l = (l.i ≤ 256) × (l.out ≡ paste l.initial.out 0 (log_table l.m) l.i)
