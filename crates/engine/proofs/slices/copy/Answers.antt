use mathlib.Core.Path.{◌≡◌, refl, ◌∙◌}
use native.Mathlib.Omega.{arith}
use lib.ListN.{get_or}
use Rattle.basics.proofs.Loops.{filled_turn, filled_front}
use Rattle.engine.proofs.Laws.{table_take}
use Rattle.engine.proofs.slices.copy.Goals as goal

pub loop-i-init : goal.loop-i-init
loop-i-init c = refl

pub loop-i-preserved : goal.loop-i-preserved
loop-i-preserved c = filled_turn (λ k. get_or c.args.from.now k 0) c.args.out.now c.loop-i.i (omega arith) c.loop-i.invariant refl

pub returns : goal.returns
returns c =
    let full : c.loop-i.i ≡ c.args.n = omega arith in
    rw (c.loop-i.invariant, full) (filled_front (λ k. get_or c.args.from.now k 0) c.args.out.now c.args.n ∙ table_take c.args.from.now c.args.n c.requires.0)
