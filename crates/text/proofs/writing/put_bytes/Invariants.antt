-- The loop's invariant: what is left of the bytes completes them.
use lib.ListN.{drop}
use Rattle.text.proofs.Appending.{Leads}
use Rattle.text.proofs.writing.put_bytes.Given as goal

abbrev pub invariant-loop-i : goal.invariant-loop-i
invariant-loop-i l = Leads (drop l.i l.bytes) l.out l.at l.bytes l.initial.out l.start
