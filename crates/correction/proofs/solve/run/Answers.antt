use native.Mathlib.Omega.{arith}
use Rattle.correction.proofs.Running.{ran_none, ran_more}
use Rattle.correction.proofs.solve.run.Goals as goal

pub loop-i-init : goal.loop-i-init
loop-i-init c = ran_none c.requires.runs_kept c.args.field.now.tables.field c.first_sizes-n.ensures c.requires.l_len.2 c.begin.ensures

pub loop-i-preserved : goal.loop-i-preserved
loop-i-preserved c = ran_more c.requires.runs_kept (omega arith) c.loop-i.invariant c.next-j.ensures c.word_turn-n.ensures
