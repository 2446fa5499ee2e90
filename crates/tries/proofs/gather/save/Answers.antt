-- The slot of the quotient gets the trust, if the multiple is of this half.
use native.Mathlib.Omega.{arith}
use Rattle.tries.proofs.Gathering.{saved_at}
use Rattle.tries.proofs.gather.save.Goals as goal

pub overflow_add-slots : goal.overflow_add-slots
overflow_add-slots c = record { fits = omega (arith, c.trust_if.ensures.1, c.requires.slots_len.1 c.from-j.result (omega (arith, c.from-j.ensures))) }

pub returns : goal.returns
returns c =
    saved_at c.args.field.now.tables.field c.args.t c.args.r c.args.x c.args.half c.quotient-e.ensures c.args.slots.now c.requires.slots_len.0 c.from-j.ensures c.trust_if.ensures.0
