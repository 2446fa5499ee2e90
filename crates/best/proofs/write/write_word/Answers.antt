-- The moments of the calls give what the law of the word asks for.
use native.Mathlib.Omega.{arith}
use Rattle.picked_rows.proofs.Difference.{given_works}
use Rattle.best.proofs.Words.{found_word}
use Rattle.best.proofs.write.write_word.Goals as goal

pub picked_row-requires : goal.picked_row-requires
picked_row-requires c =
    let (prepared, found, long, out-long) = c.requires.prepared in
    record { works = (given_works prepared.given, prepared.summed, long, found.late_in) }

pub picked_row-requires-2 : goal.picked_row-requires-2
picked_row-requires-2 c =
    let (prepared, found, long, out-long) = c.requires.prepared in
    record { works = (given_works prepared.given, prepared.summed, omega (arith, c.picked_row.auto.out, long), found.early_in) }

pub returns : goal.returns
returns c =
    let (prepared, found, long, out-long) = c.requires.prepared in
    found_word prepared found c.apply.ensures c.picked_row.ensures c.add_scaled.ensures c.picked_row-2.ensures c.add_scaled-2.ensures
