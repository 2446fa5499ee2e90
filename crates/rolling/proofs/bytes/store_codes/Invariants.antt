-- The loop's invariant: the first i codes are in place.
use Prim.Native.Nat.{◌*◌}
use lib.ListN.{take}
use Rattle.basics.specs.Lists.{Holds}
use Rattle.rolling.specs.Bytes.{in_bytes}
use Rattle.rolling.proofs.bytes.store_codes.Given as goal

abbrev pub invariant-loop-i : goal.invariant-loop-i
invariant-loop-i l = Holds l.out (2 * l.i) (in_bytes 2 (take l.i l.codes))
