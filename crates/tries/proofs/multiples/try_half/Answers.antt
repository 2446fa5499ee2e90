-- What the slots say is what the multiples cost, so the cheapest of the slots is that of the multiples.
use native.Mathlib.Omega.{arith}
use mathlib.Core.Path.{refl}
use Rattle.field.proofs.Galois.{size_le}
use Rattle.field.proofs.Lookup.{is_log}
use Rattle.tries.proofs.Choosing.{by_factor, within, slots_tell}
use Rattle.tries.proofs.multiples.try_half.Goals as goal

pub gather-fixed-requires : goal.gather-fixed-requires
gather-fixed-requires c =
    record { is_log = rw c.logarithm-log.ensures (is_log c.args.field.now.tables.field c.args.d (omega (arith, c.requires.rows.1, size_le c.args.field.now.tables.field))); difference_len = (c.requires.rows.0.differences, c.requires.rows.0.lates, c.requires.rows.0.rows, c.requires.rows.0.most, refl) }

pub choose-requires : goal.choose-requires
choose-requires c =
    let h = c.args.field.now.tables.field in
    let gathered = by_factor h c.args.late.now c.args.difference.now c.gather-fixed.ensures c.logarithm-log.ensures (omega (arith, c.requires.rows.1, size_le h)) in
    (c.requires.rows.2.ordered, c.requires.rows.2.most, c.requires.rows.2.is_half, within h c.requires.rows.0 c.args.d gathered c.requires.rows.2)

pub returns : goal.returns
returns c =
    let h = c.args.field.now.tables.field in
    let gathered = by_factor h c.args.late.now c.args.difference.now c.gather-fixed.ensures c.logarithm-log.ensures (omega (arith, c.requires.rows.1, size_le h)) in
    slots_tell h c.requires.rows.0 c.args.d gathered c.requires.rows.2 (c.args.best.cost, c.args.best.e) c.choose.ensures
