-- The loop's invariant: the bytes from the jth on are in the number, so it fits while the width is at most eight.
use Rattle.rolling.proofs.InBytes.{Read}
use Rattle.rolling.proofs.bytes.number_at.Given as goal

abbrev pub invariant-loop-j : goal.invariant-loop-j
invariant-loop-j l = Read l.bytes l.at l.width l.j l.x
