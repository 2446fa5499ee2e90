-- The loop's invariant: the rows behind j hold their multiples, the rest are as they were, and the sum is that of the multiples; the index is that of one of
-- the rows behind j with the coordinate, or none of them has it.
use mathlib.Core.Path.{◌≡◌}
use Rattle.values.specs.Values.{Sweeping}
use Rattle.generator.specs.Rows.{total, multiple_at}
use Rattle.generator.proofs.Turns.{Sought}
use Rattle.generator.proofs.factors.take_multiples.Given as goal

abbrev pub invariant-loop-j : goal.invariant-loop-j
invariant-loop-j l = Sweeping (multiple_at l.field.number l.alpha l.t l.xs l.initial.a l.b) 0 l.j l.initial.a l.a × (l.sum ≡ total (multiple_at l.field.number l.alpha l.t l.xs l.initial.a l.b) l.j) × Sought l.xs l.count l.alpha l.over l.j
