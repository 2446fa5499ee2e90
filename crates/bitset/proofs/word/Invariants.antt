-- The loop's invariant: the first j of the eight bytes are in the number.
use mathlib.Core.Path.{◌≡◌}
use lib.ListN.{take, drop}
use Rattle.basics.specs.SetBits.{little_endian}
use Rattle.bitset.proofs.word.Given as goal

abbrev pub invariant-loop-j : goal.invariant-loop-j
invariant-loop-j l = l.x ≡ little_endian (take l.j (drop l.at l.bytes))
