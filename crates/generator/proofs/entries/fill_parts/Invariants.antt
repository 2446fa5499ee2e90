-- The loop's invariant: the parts of the slots before s are at the indices of their points, and added to their sums.
use lib.ListN.{get_or}
use Rattle.field.specs.Sum.{◌⊕◌}
use Rattle.values.specs.Values.{Sweeping}
use Rattle.generator.specs.Rows.{part_at}
use Rattle.generator.proofs.Symbols.{Filling}
use Rattle.generator.proofs.entries.fill_parts.Given as goal

abbrev pub invariant-loop-s : goal.invariant-loop-s
invariant-loop-s l = Sweeping (λ s. get_or l.initial.sums s 0 ⊕ part_at l.field.number l.xs l.l l.u l.a l.b l.j s) l.count l.s l.initial.sums l.sums
    × Filling l.field.number l.j l.count l.xs l.l l.u l.a l.b l.s l.row
