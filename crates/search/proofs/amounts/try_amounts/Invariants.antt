-- The amounts at the later place one after the other, each with all at the earlier.
use Rattle.search.proofs.Pairing.{PairGoing}
use Rattle.search.proofs.amounts.try_amounts.Given as goal

abbrev pub invariant-loop-d : goal.invariant-loop-d
invariant-loop-d l = PairGoing l.field.number l.trusts l.difference l.late_row l.row l.late l.early l.initial.best l.initial.rest l.best l.rest l.d
