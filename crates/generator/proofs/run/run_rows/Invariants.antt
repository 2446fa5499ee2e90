-- The loop's invariant: the arrays show the pair of the first i points at the later ones, and their rows.
use Prim.Native.Nat.{◌≤◌, ◌-◌}
use Rattle.values.specs.Values.{ShownIn}
use Rattle.generator.specs.Rows.{Rows, pair_after}
use Rattle.generator.proofs.run.run_rows.Given as goal

abbrev pub invariant-loop-i : goal.invariant-loop-i
invariant-loop-i l = (l.i ≤ l.last) × ShownIn l.field.number l.xs l.initial.u l.i l.l l.u l.n (pair_after l.field.number l.xs l.initial.u l.i) × Rows l.field.number l.xs l.initial.u l.count l.l l.u l.a l.b l.i

abbrev pub decreases-loop-i : goal.decreases-loop-i
decreases-loop-i l = l.last - l.i
