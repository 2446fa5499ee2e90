-- Test after test of the lengths, and then of what the lists hold.
use native.Mathlib.Omega.{arith}
use lib.ListN.{length}
use borrow.Author.Tests.{eq-eqb, ne_eqb, le-leb, lt-leb}
use Rattle.basics.proofs.Outcomes.{pass, refuse}
use Rattle.codewords.proofs.Accepted.{accepted_done}
use Rattle.solving.specs.Tests.{room}
use Rattle.matrix.proofs.Joined.{rows_small}
use Rattle.matrix.proofs.operation.matrix_tested.Goals as goal

pub returns-then-places-code : goal.returns-then-places-code
returns-then-places-code c = refuse _ (ne_eqb _ _ c.if-places-code.true)

pub overflow_mul-code : goal.overflow_mul-code
overflow_mul-code c =
    let a = accepted_done _ c.args.code.now.accepted in
    omega (arith, rows_small {k = c.args.code.now.k} {n = length c.args.code.now.xs.now} (omega (arith, a.k_most, a.n_most)) a.n_most)

pub returns-then-out-code : goal.returns-then-out-code
returns-then-out-code c = pass _ (eq-eqb _ _ c.if-places-code.false) (refuse _ (ne_eqb _ _ c.if-out-code.true))

pub returns-then-work-lt-ROOM : goal.returns-then-work-lt-ROOM
returns-then-work-lt-ROOM c = pass _ (eq-eqb _ _ c.if-places-code.false) (pass _ (eq-eqb _ _ c.if-out-code.false) (refuse _ (lt-leb room _ c.if-work-lt-ROOM.true)))

pub returns : goal.returns
returns c = pass _ (eq-eqb _ _ c.if-places-code.false) (pass _ (eq-eqb _ _ c.if-out-code.false) (pass _ (le-leb room _ c.if-work-lt-ROOM.false) c.matrix_placed.ensures))
