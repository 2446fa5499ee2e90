-- Place by place: the rows after i places, up to the last.
use Rattle.locator.specs.Arrays.{After}
use Rattle.locator.proofs.step.run.Given as goal

abbrev pub invariant-loop-i : goal.invariant-loop-i
invariant-loop-i l = After l.field.number l.shape l.xs l.ys l.us l.i l.heads l.a l.b l.c l.d
