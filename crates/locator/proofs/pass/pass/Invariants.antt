-- The loop's invariant: the values behind i are by the rules, and the rest is as it was.
use Rattle.values.specs.Values.{Sweeping, raised_at, gained_at}
use Rattle.locator.proofs.pass.pass.Given as goal

abbrev pub invariant-loop-i : goal.invariant-loop-i
invariant-loop-i l = Sweeping (raised_at l.field.number l.xs l.alpha l.initial.p) 0 l.i l.initial.p l.p × Sweeping (gained_at l.field.number l.ta l.initial.p l.initial.a) 0 l.i l.initial.a l.a × Sweeping (gained_at l.field.number l.tb l.initial.p l.initial.b) 0 l.i l.initial.b l.b × Sweeping (gained_at l.field.number l.tc l.initial.p l.initial.c) 0 l.i l.initial.c l.c
