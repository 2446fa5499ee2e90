-- The loop's invariant: the first i codes are the numbers of the bytes.
use mathlib.Core.Path.{◌≡◌}
use Rattle.basics.proofs.Loops.{filled}
use Rattle.rolling.proofs.InBytes.{number_at}
use Rattle.rolling.proofs.bytes.load_codes.Given as goal

abbrev pub invariant-loop-i : goal.invariant-loop-i
invariant-loop-i l = l.codes ≡ filled (number_at 2 l.bytes) l.initial.codes l.i
