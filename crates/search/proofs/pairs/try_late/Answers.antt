-- The later place's row is written, and then its pairs are tried.
use Rattle.picked_rows.proofs.Difference.{given_works}
use Rattle.search.proofs.pairs.try_late.Goals as goal

pub picked_row-requires : goal.picked_row-requires
picked_row-requires c =
    record { works = (given_works c.requires.prepared.0.given, c.requires.prepared.0.summed, c.requires.prepared.2, c.requires.prepared.4) }
