use Prim.Native.Nat.{◌-◌}
use mathlib.Core.Path.{◌∙◌, ap}
use native.Mathlib.Omega.{arith}
use Rattle.field.proofs.Galois.{size_ge, size_le}
use Rattle.search.proofs.Pairing.{amounts_start, amounts_turn, amounts_end}
use Rattle.search.proofs.amounts.try_amounts.Goals as goal

pub overflow_sub-some : goal.overflow_sub-some
overflow_sub-some c = omega (arith, size_ge c.args.field.now.tables.field)

pub loop-d-init : goal.loop-d-init
loop-d-init c = amounts_start

pub overflow_cast-d : goal.overflow_cast-d
overflow_cast-d c = record { fits = omega (arith, size_le c.args.field.now.tables.field) }

pub loop-d-preserved : goal.loop-d-preserved
loop-d-preserved c =
    let less = c.saturating_sub-rest.ensures ∙ ap (λ a. c.loop-d.rest - (a - 1)) c.size-all.ensures in
    amounts_turn c.loop-d.d (omega arith) (omega arith) less c.try_block-best.ensures c.loop-d.invariant

pub returns : goal.returns
returns c = amounts_end c.loop-d.d (omega arith) c.loop-d.invariant
