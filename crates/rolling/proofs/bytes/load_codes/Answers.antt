use Prim.Native.Nat.{◌*◌}
use mathlib.Core.Path.{◌≡◌, ◌∙◌}
use native.Mathlib.Omega.{arith}
use Rattle.basics.proofs.Loops.{filled_turn, filled_all}
use Rattle.basics.proofs.LittleEndian.{part_lt}
use Rattle.rolling.specs.Bytes.{numbers}
use Rattle.rolling.proofs.InBytes.{number_at}
use Rattle.rolling.proofs.bytes.load_codes.Goals as goal

pub overflow_cast-codes : goal.overflow_cast-codes
overflow_cast-codes c =
    record { fits = rw c.number_at.ensures (part_lt c.args.bytes.now (2 * c.loop-i.i) 2 (λ i. (c.type_inv.bytes i).fits)) }

pub loop-i-preserved : goal.loop-i-preserved
loop-i-preserved c = filled_turn (number_at 2 c.args.bytes.now) c.args.codes.now c.loop-i.i (omega arith) c.loop-i.invariant c.number_at.ensures

pub returns : goal.returns
unfolding numbers
returns c =
    let all_read : c.loop-i.i ≡ 24 = omega arith in
    rw all_read at c.loop-i.invariant ∙ filled_all (number_at 2 c.args.bytes.now) c.args.codes.now 24 (omega arith)
