-- The loop's invariant: the bytes so far are in place, and the rest of the number belongs behind them.
use mathlib.Core.Path.{◌≡◌}
use mathlib.Core.List.{◌++◌}
use lib.ListN.{length, take, drop}
use Rattle.rolling.specs.Bytes.{bytes_of}
use Rattle.rolling.proofs.bytes.store_number.Given as goal

abbrev pub invariant-loop-byte : goal.invariant-loop-byte
invariant-loop-byte l = take l.byte-index l.byte-items ++ bytes_of (length (drop l.byte-index l.byte-items)) l.rest ≡ bytes_of (length l.fn.out) l.x
