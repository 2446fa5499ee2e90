-- The next kept place, or the one after it.
use Rattle.correction.proofs.Running.{last_next, last_further}
use Rattle.correction.proofs.solve.last_index.Goals as goal

pub returns-then-l-j-eq0 : goal.returns-then-l-j-eq0
returns-then-l-j-eq0 c = last_further c.requires c.next-j.ensures c.if-l-j-eq0.true c.next.ensures

pub returns : goal.returns
returns c = last_next c.requires c.next-j.ensures c.if-l-j-eq0.false
