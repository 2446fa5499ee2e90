use native.Mathlib.Omega.{arith}
use Rattle.solving.proofs.Restored.{free_none, read_in, free_turn}
use Rattle.solving.proofs.restore.restore_free.Goals as goal

pub loop-t-init : goal.loop-t-init
loop-t-init c = free_none c.requires

pub overflow_add-s : goal.overflow_add-s
overflow_add-s c = omega (arith, c.from-s.ensures, read_in c.requires c.loop-t.invariant (omega arith), c.requires.most)

pub bounds-w-s : goal.bounds-w-s
bounds-w-s c = rw c.from-s.ensures (read_in c.requires c.loop-t.invariant (omega arith))

pub loop-t-preserved : goal.loop-t-preserved
loop-t-preserved c = rw c.from-s.ensures (free_turn c.requires c.loop-t.invariant (omega arith))
