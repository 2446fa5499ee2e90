-- The loop's invariant: the values behind i are by the rules, and the rest is as it was.
use Rattle.values.specs.Values.{Sweeping, raised_at, gained_at}
use Rattle.values.proofs.sweep.gain_raise.Given as goal

abbrev pub invariant-loop-i : goal.invariant-loop-i
invariant-loop-i l = Sweeping (raised_at l.field.number l.xs l.alpha l.initial.h) l.from l.i l.initial.h l.h × Sweeping (gained_at l.field.number l.t l.initial.h l.initial.g) l.from l.i l.initial.g l.g
