-- The loop's invariant: the values behind i are by the rules, and the rest is as it was.
use Rattle.values.specs.Values.{Sweeping}
use Rattle.two_places.specs.Turns.{raised_twice, gained_twice}
use Rattle.two_places.proofs.turn.sweep_twice.Given as goal

abbrev pub invariant-loop-i : goal.invariant-loop-i
invariant-loop-i l = Sweeping (gained_twice l.field.number l.xs l.alpha l.t l.s l.initial.h l.initial.g) l.from l.i l.initial.h l.h × Sweeping (raised_twice l.field.number l.xs l.t l.beta l.initial.h l.initial.g) l.from l.i l.initial.g l.g
