use native.Mathlib.Omega.{arith}
use lib.Bits.{bit_xor}
use lib.Dec.{eqb}
use lib.ListN.{get_or}
use Rattle.correction.proofs.Counting.{distance_more, distance_last, more_le}
use Rattle.correction.proofs.kept.distance.Goals as goal

pub loop-i-init : goal.loop-i-init
loop-i-init c = (omega arith, omega arith)

pub loop-i-preserved : goal.loop-i-preserved
loop-i-preserved c =
    (omega (arith, c.loop-i.invariant.0, more_le (eqb (bit_xor (get_or c.args.w.now c.loop-i.i 0) (get_or c.args.r.now c.loop-i.i 0)) 0) c.loop-i.d c.more-d.ensures), distance_more c.args.w.now c.args.r.now c.loop-i.i c.loop-i.d c.requires.0 (omega arith) c.loop-i.invariant.1 c.more-d.ensures)

pub returns : goal.returns
returns c =
    distance_last c.args.w.now c.args.r.now c.loop-i.i c.loop-i.d c.requires.0 (omega arith) c.loop-i.invariant.1
