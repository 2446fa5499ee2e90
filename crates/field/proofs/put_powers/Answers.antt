use mathlib.Core.Path.{◌≡◌, refl, ap, ◌∙◌}
use native.Mathlib.Omega.{arith}
use lib.Seq.{paste, paste-zero}
use Rattle.field.proofs.Pastes.{paste_turn}
use Rattle.field.proofs.put_powers.Goals as goal

pub loop-i-init : goal.loop-i-init
loop-i-init c = (omega arith, paste-zero c.args.out.now c.args.at c.args.row.now)

pub loop-i-preserved : goal.loop-i-preserved
loop-i-preserved c =
    (omega arith, paste_turn c.args.out.now c.args.at c.args.row.now c.loop-i.i (omega arith) (omega arith) c.loop-i.invariant.1 refl)

pub returns : goal.returns
returns c =
    let e : c.loop-i.i ≡ 255 = omega arith in
    c.loop-i.invariant.1 ∙ ap (paste c.args.out.now c.args.at c.args.row.now) e
