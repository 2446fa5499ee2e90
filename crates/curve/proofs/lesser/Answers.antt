-- The two cases of the test.
use borrow.Author.Tests.{lt-ltb, le-ltb}
use Rattle.curve.specs.Roots.{lesser}
use Rattle.curve.proofs.lesser.Goals as goal

pub returns-then-a-b : goal.returns-then-a-b
unfolding lesser
returns-then-a-b c = rw (lt-ltb c.args.a c.args.b c.if-a-b.true)

pub returns-else-a-b : goal.returns-else-a-b
unfolding lesser
returns-else-a-b c = rw (le-ltb c.args.a c.args.b c.if-a-b.false)
