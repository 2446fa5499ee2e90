-- The loop's invariant: the numbers read so far stand at the front, and what is left of the text decides.
use Prim.Native.Nat.{◌-◌}
use mathlib.Core.Path.{◌≡◌}
use lib.ListN.{length, take, drop}
use Rattle.text.specs.Reading.{before, numbers}
use Rattle.text.proofs.reading.read_numbers.Given as goal

abbrev pub invariant-loop-count : goal.invariant-loop-count
invariant-loop-count l = before (take l.count l.out) (numbers (length l.initial.out - l.count) (drop l.at l.s)) ≡ numbers (length l.initial.out) (drop l.start l.s)
