-- The loop's invariant: what is left of the numbers completes them.
use lib.ListN.{drop}
use Rattle.text.specs.Text.{following}
use Rattle.text.proofs.Appending.{Leads}
use Rattle.text.proofs.writing.put_following.Given as goal

abbrev pub invariant-loop-i : goal.invariant-loop-i
invariant-loop-i l = Leads (following (drop l.i l.l)) l.out l.at (following l.l) l.initial.out l.start
