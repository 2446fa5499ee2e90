-- The loop's invariant: what is left of the key decides.
use mathlib.Core.Path.{◌≡◌}
use lib.ListN.{drop}
use Rattle.text.specs.Reading.{stripped}
use Rattle.text.proofs.reading.after_key.Given as goal

abbrev pub invariant-loop-i : goal.invariant-loop-i
invariant-loop-i l = stripped (drop l.i l.key) (drop l.at l.s) ≡ stripped l.key (drop l.start l.s)
