-- Four lanes begin.
use Rattle.evaluation.proofs.Passing.{begun_four}
use Rattle.evaluation.proofs.lanes.begin_four.Goals as goal

pub returns : goal.returns
returns c =
    begun_four c.begin.ensures c.begin-2.ensures c.begin-3.ensures c.begin-4.ensures
