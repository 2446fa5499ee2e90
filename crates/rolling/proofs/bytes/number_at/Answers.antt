use mathlib.Core.Path.{◌≡◌, ◌∙◌}
use native.Mathlib.Nat.{add-zero, sub-zero, sub_self}
use native.Mathlib.Omega.{arith}
use Rattle.basics.specs.SetBits.{little_endian}
use Rattle.rolling.proofs.InBytes.{byte_below}
use Rattle.rolling.proofs.bytes.number_at.Goals as goal

pub loop-j-init : goal.loop-j-init
unfolding little_endian
loop-j-init c = rw sub_self

pub overflow_mul-x : goal.overflow_mul-x
overflow_mul-x c =
    let grown = byte_below c.args.bytes.now c.args.at c.args.width c.loop-j.j (λ i. (c.type_inv.bytes i).fits) c.requires (omega arith) (omega arith) c.loop-j.invariant in
    record { fits = omega (arith, grown.1) }

pub overflow_add-x : goal.overflow_add-x
overflow_add-x c =
    let grown = byte_below c.args.bytes.now c.args.at c.args.width c.loop-j.j (λ i. (c.type_inv.bytes i).fits) c.requires (omega arith) (omega arith) c.loop-j.invariant in
    record { fits = omega (arith, grown.1, c.from.ensures) }

pub loop-j-preserved : goal.loop-j-preserved
loop-j-preserved c =
    let grown = byte_below c.args.bytes.now c.args.at c.args.width c.loop-j.j (λ i. (c.type_inv.bytes i).fits) c.requires (omega arith) (omega arith) c.loop-j.invariant in
    rw c.from.ensures grown.0

pub returns : goal.returns
returns c = let none : c.loop-j.j ≡ 0 = omega arith in c.loop-j.invariant ∙ rw (none, add-zero, sub-zero)
