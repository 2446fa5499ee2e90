-- Test after test of the lengths, and then of what the lists hold.
use mathlib.Core.Path.{sym}
use lib.Seq.{length-take-le}
use borrow.Author.Tests.{eq-eqb, ne_eqb, le-leb, lt-leb}
use Rattle.basics.proofs.Outcomes.{pass, refuse, meets_as}
use Rattle.codewords.proofs.Accepted.{accepted_done}
use Rattle.solving.specs.Tests.{room}
use Rattle.solving.proofs.Chains.{posed_as}
use Rattle.coder.proofs.systematic_word.systematic_word_tested.Goals as goal

pub returns-then-places-code : goal.returns-then-places-code
returns-then-places-code c = refuse _ (ne_eqb _ _ c.if-places-code.true)

pub returns-then-symbols-code : goal.returns-then-symbols-code
returns-then-symbols-code c = pass _ (eq-eqb _ _ c.if-places-code.false) (refuse _ (ne_eqb _ _ c.if-symbols-code.true))

pub returns-then-out-code : goal.returns-then-out-code
returns-then-out-code c = pass _ (eq-eqb _ _ c.if-places-code.false) (pass _ (eq-eqb _ _ c.if-symbols-code.false) (refuse _ (ne_eqb _ _ c.if-out-code.true)))

pub returns-then-work-lt-ROOM : goal.returns-then-work-lt-ROOM
returns-then-work-lt-ROOM c = pass _ (eq-eqb _ _ c.if-places-code.false) (pass _ (eq-eqb _ _ c.if-symbols-code.false) (pass _ (eq-eqb _ _ c.if-out-code.false) (refuse _ (lt-leb room _ c.if-work-lt-ROOM.true))))

pub slice_bounds-f-end : goal.slice_bounds-f-end
slice_bounds-f-end c = (accepted_done _ c.args.code.now.accepted).n_most

pub slice_bounds-systematic_word_run-end : goal.slice_bounds-systematic_word_run-end
slice_bounds-systematic_word_run-end c = sym (length-take-le _ _ (accepted_done _ c.args.code.now.accepted).n_most)

pub systematic_word_run-requires : goal.systematic_word_run-requires
systematic_word_run-requires c = record { places_len = (c.if-places-code.false, c.if-symbols-code.false, c.if-out-code.false, c.if-work-lt-ROOM.false, length-take-le _ _ (accepted_done _ c.args.code.now.accepted).n_most) }

pub returns : goal.returns
returns c = pass _ (eq-eqb _ _ c.if-places-code.false) (pass _ (eq-eqb _ _ c.if-symbols-code.false) (pass _ (eq-eqb _ _ c.if-out-code.false) (pass _ (le-leb room _ c.if-work-lt-ROOM.false) (meets_as (posed_as _ _ _ _ c.if-places-code.false) c.systematic_word_run.ensures))))
