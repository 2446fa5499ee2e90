use native.Mathlib.Omega.{arith}
use Rattle.evaluation.proofs.Passing.{split_more}
use Rattle.evaluation.proofs.lanes.split.Goals as goal

pub loop-j-preserved : goal.loop-j-preserved
loop-j-preserved c =
    (c.store_four.ensures.room, split_more c.loop-j.invariant.1 c.run_four-g.ensures.1 c.store_four.ensures)

-- four from here on are all that are left
pub returns-2 : goal.returns-2
returns-2 c = λ t l. split_more c.loop-j.invariant.1 c.run_four-g.ensures.1 c.store_four.ensures t (omega arith)
