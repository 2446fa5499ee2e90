-- The earlier places from the last to the first.
use Rattle.code.specs.Shown.{shown}
use Rattle.codewords.specs.Code.{q}
use Rattle.patterns.specs.Patterns.{down, pair}
use Rattle.search.proofs.Running.{Going}
use Rattle.search.proofs.Pairing.{earlier}
use Rattle.search.proofs.pairs.try_earlier.Given as goal

abbrev pub invariant-loop-i : goal.invariant-loop-i
invariant-loop-i l =
    let code = shown l.code in
    Going code l.received l.trusts (pair (q code) code.k l.late.0) l.initial.best l.initial.rest (earlier (q code) code.k l.late.0) l.best l.rest (down l.i)
