use mathlib.Core.Path.{◌≡◌}
use native.Mathlib.Omega.{arith}
use lib.ListN.{length, get_or}
use Rattle.basics.proofs.Loops.{filled_turn, filled_front}
use Rattle.field.specs.Galois.{galois}
use Rattle.elliptic.specs.Curve.{point}
use Rattle.elliptic.specs.Pair.{evaluate}
use Rattle.locator.proofs.locate.write_values.Goals as goal

pub loop-i-preserved : goal.loop-i-preserved
loop-i-preserved c =
    filled_turn (λ j. evaluate (galois c.args.field.now.number) c.args.f.now (point (get_or c.args.xs.now j 0) (get_or c.args.ys.now j 0))) c.args.out.now c.loop-i.i (omega arith) c.loop-i.invariant c.value.ensures

pub returns : goal.returns
returns c =
    let full : c.loop-i.i ≡ length c.args.xs.now = omega arith in
    rw (c.loop-i.invariant, full) (filled_front (λ j. evaluate (galois c.args.field.now.number) c.args.f.now (point (get_or c.args.xs.now j 0) (get_or c.args.ys.now j 0))) c.args.out.now (length c.args.xs.now))
