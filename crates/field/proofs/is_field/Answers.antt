-- The two tests in their order.
use borrow.Author.Tests.{le-leb, lt-leb}
use Rattle.field.proofs.is_field.Goals as goal

pub returns-then-m-ge2 : goal.returns-then-m-ge2
returns-then-m-ge2 c = simp (le-leb 2 c.args.m c.if-m-ge2.true)

pub returns-else-m-ge2 : goal.returns-else-m-ge2
returns-else-m-ge2 c = simp (lt-leb 2 c.args.m c.if-m-ge2.false)
