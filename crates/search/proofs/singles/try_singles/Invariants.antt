-- The loop's invariant: the places before i are still to go.
use Rattle.code.specs.Shown.{shown}
use Rattle.codewords.specs.Code.{q}
use Rattle.patterns.specs.Patterns.{none, singles, down}
use Rattle.search.specs.Search.{values}
use Rattle.search.proofs.Running.{Going}
use Rattle.search.proofs.singles.try_singles.Given as goal

abbrev pub invariant-loop-i : goal.invariant-loop-i
invariant-loop-i l =
    let code = shown l.code in
    Going code l.received l.trusts (values (q code) (none code.k)) l.initial.best l.initial.rest (singles (q code) code.k) l.best l.rest (down l.i)
