-- The tests in their order.
use borrow.Author.Tests.{le-leb, lt-leb}
use Rattle.code.proofs.test.right_dimension.Goals as goal

pub returns-then-k-ge1 : goal.returns-then-k-ge1
returns-then-k-ge1 c = simp (le-leb 1 c.args.k c.if-k-ge1.true)

pub returns-else-k-ge1 : goal.returns-else-k-ge1
returns-else-k-ge1 c = simp (lt-leb 1 c.args.k c.if-k-ge1.false)
