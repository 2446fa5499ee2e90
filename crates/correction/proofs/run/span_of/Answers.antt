-- By cases of whether t is 0.
use Rattle.correction.proofs.Locating.{span_zero, span_some}
use Rattle.correction.proofs.run.span_of.Goals as goal

pub returns-then-t-eq0 : goal.returns-then-t-eq0
returns-then-t-eq0 c = span_zero _ c.if-t-eq0.true

pub returns : goal.returns
returns c = span_some _ _ c.if-t-eq0.false
