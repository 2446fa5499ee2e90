-- The calls solve the two conditions one after the other.
use Rattle.point_count.specs.Singular.{candidate}
use Rattle.curve.proofs.candidate.Goals as goal

pub returns : goal.returns
unfolding candidate
returns c = rw (c.quotient-y.ensures, c.add-a.ensures, c.product.ensures, c.quotient-x.ensures)
