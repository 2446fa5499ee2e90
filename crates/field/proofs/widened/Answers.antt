-- The two cases of the test.
use borrow.Author.Tests.{eq-eqb, ne_eqb}
use Rattle.field.specs.Tables.{no_byte, widened}
use Rattle.field.proofs.widened.Goals as goal

pub returns-then-l-eq-NO_BYTE : goal.returns-then-l-eq-NO_BYTE
unfolding widened
returns-then-l-eq-NO_BYTE c = rw (eq-eqb c.args.l no_byte c.if-l-eq-NO_BYTE.true)

pub returns-else-l-eq-NO_BYTE : goal.returns-else-l-eq-NO_BYTE
unfolding widened
returns-else-l-eq-NO_BYTE c = rw (c.from.ensures, ne_eqb c.args.l no_byte c.if-l-eq-NO_BYTE.false)
