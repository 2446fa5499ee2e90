-- The first try is a try, the singles go on from it, and the pairs from what the singles give.
use native.Mathlib.Omega.{arith}
use Rattle.codewords.proofs.Accepted.{accepted_done}
use Rattle.search.proofs.First.{singles_few, first_is, finds_all}
use Rattle.search.proofs.run.search.Goals as goal

pub first_try-first-requires : goal.first_try-first-requires
first_try-first-requires c =
    let p = c.requires.prepared.0 in (p.given.trusted, (accepted_done _ p.given.done).n_most, p.summed.stored.room)

pub try_singles-single-requires : goal.try_singles-single-requires
try_singles-single-requires c = record { prepared = (c.requires.prepared.0, rw c.first_try-first.ensures (first_is c.requires.prepared.0), c.requires.prepared.2) }

pub overflow_mul-some : goal.overflow_mul-some
overflow_mul-some c = record { fits = omega (arith, singles_few c.requires.prepared.0 c.size.ensures) }

pub returns : goal.returns
returns c =
    finds_all c.args.budget c.requires.prepared.3 c.first_try-first.ensures c.size.ensures c.saturating_sub-rest.ensures
    c.try_singles-single.ensures c.try_pairs.ensures
