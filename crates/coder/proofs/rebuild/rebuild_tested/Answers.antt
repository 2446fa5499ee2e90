-- Test after test of the lengths, and then of what the lists hold.
use mathlib.Core.Path.{sym}
use lib.Seq.{length-take-le}
use borrow.Author.Tests.{eq-eqb, ne_eqb, le-leb, lt-leb}
use Rattle.basics.proofs.Outcomes.{pass, refuse}
use Rattle.codewords.proofs.Accepted.{accepted_done}
use Rattle.solving.specs.Tests.{room}
use Rattle.coder.proofs.rebuild.rebuild_tested.Goals as goal

pub returns-then-code-places : goal.returns-then-code-places
returns-then-code-places c = refuse _ (lt-leb _ _ c.if-code-places.true)

pub returns-then-symbols-places : goal.returns-then-symbols-places
returns-then-symbols-places c = pass _ (le-leb _ _ c.if-code-places.false) (refuse _ (ne_eqb _ _ c.if-symbols-places.true))

pub returns-then-out-code : goal.returns-then-out-code
returns-then-out-code c = pass _ (le-leb _ _ c.if-code-places.false) (pass _ (eq-eqb _ _ c.if-symbols-places.false) (refuse _ (ne_eqb _ _ c.if-out-code.true)))

pub returns-then-work-lt-ROOM : goal.returns-then-work-lt-ROOM
returns-then-work-lt-ROOM c = pass _ (le-leb _ _ c.if-code-places.false) (pass _ (eq-eqb _ _ c.if-symbols-places.false) (pass _ (eq-eqb _ _ c.if-out-code.false) (refuse _ (lt-leb room _ c.if-work-lt-ROOM.true))))

pub slice_bounds-f-end : goal.slice_bounds-f-end
slice_bounds-f-end c = (accepted_done _ c.args.code.now.accepted).n_most

pub slice_bounds-rebuild_run-end : goal.slice_bounds-rebuild_run-end
slice_bounds-rebuild_run-end c = sym (length-take-le _ _ (accepted_done _ c.args.code.now.accepted).n_most)

pub rebuild_run-requires : goal.rebuild_run-requires
rebuild_run-requires c = record { symbols_len = (c.if-symbols-places.false, c.if-out-code.false, c.if-work-lt-ROOM.false, length-take-le _ _ (accepted_done _ c.args.code.now.accepted).n_most) }

pub returns : goal.returns
returns c = pass _ (le-leb _ _ c.if-code-places.false) (pass _ (eq-eqb _ _ c.if-symbols-places.false) (pass _ (eq-eqb _ _ c.if-out-code.false) (pass _ (le-leb room _ c.if-work-lt-ROOM.false) c.rebuild_run.ensures)))
