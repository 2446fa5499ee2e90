use native.Mathlib.Omega.{arith}
use Rattle.values.proofs.Sweeps.{sweeping_none, sweeping_turn, sweeping_all, raised_by}
use Rattle.values.proofs.sweep.raise.Goals as goal

pub loop-i-init : goal.loop-i-init
loop-i-init c = sweeping_none _ _ _

pub loop-i-preserved : goal.loop-i-preserved
loop-i-preserved c =
    sweeping_turn _ _ _ c.loop-i.i (omega (arith, c.requires.h_len)) c.loop-i.invariant (raised_by c.args.field.now.number c.loop-i.invariant c.args.xs.now c.args.alpha c.product.ensures)

pub returns : goal.returns
returns c = sweeping_all _ _ _ (omega (arith, c.requires.h_len)) c.loop-i.invariant
