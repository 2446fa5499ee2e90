use mathlib.Core.Path.{sym, ◌∙◌}
use native.Mathlib.Omega.{arith}
use Rattle.best.proofs.Words.{apply_turn, apply_end}
use Rattle.best.proofs.write.apply.Goals as goal

pub loop-i-preserved : goal.loop-i-preserved
loop-i-preserved c =
    apply_turn c.loop-i.i _ _ c.loop-i.out (omega arith) (omega arith) (omega arith) ∙ c.loop-i.invariant

pub returns : goal.returns
returns c =
    sym (apply_end c.loop-i.i c.args.received.now c.args.difference.now _ (omega arith) (omega arith)) ∙ c.loop-i.invariant
