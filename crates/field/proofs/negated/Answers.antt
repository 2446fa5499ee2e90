-- The two cases of the test.
use native.Mathlib.Omega.{arith}
use borrow.Author.Tests.{eq-eqb, ne_eqb}
use Rattle.field.specs.Tables.{no_byte, negated}
use Rattle.field.proofs.negated.Goals as goal

pub returns-then-l-eq-NO_BYTE : goal.returns-then-l-eq-NO_BYTE
unfolding negated
returns-then-l-eq-NO_BYTE c = rw (eq-eqb c.args.l no_byte c.if-l-eq-NO_BYTE.true)

pub overflow_sub-result : goal.overflow_sub-result
overflow_sub-result c = omega (arith, c.requires c.if-l-eq-NO_BYTE.false)

pub returns : goal.returns
unfolding negated
returns c = rw (c.from.ensures, ne_eqb c.args.l no_byte c.if-l-eq-NO_BYTE.false)
