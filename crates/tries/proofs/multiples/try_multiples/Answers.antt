-- One half is enough for less than 128 multiples, and both halves have the others.
use Prim.Native.Nat.{◌-◌, ◌≤◌, min}
use native.Mathlib.Omega.{arith}
use mathlib.Core.Path.{refl}
use Rattle.field.specs.Galois.{galois, size}
use Rattle.elliptic.specs.Pair.{add_scaled}
use Rattle.tries.proofs.Choosing.{tried_one, tried_both, in_one, in_low, in_high}
use Rattle.tries.proofs.multiples.try_multiples.Goals as goal

pub try_half-requires : goal.try_half-requires
try_half-requires c =
    let few : c.min-count.result ≤ size c.args.field.now.number - 1 = omega (arith, c.min-count.ensures, c.size-all.ensures) in
    record { rows = (c.requires.rows.0, c.requires.rows.1, in_one c.args.field.now.tables.field few c.if-count-lt128.true) }

pub returns-then-count-lt128 : goal.returns-then-count-lt128
returns-then-count-lt128 c =
    tried_one (galois c.args.field.now.number) c.args.trusts.now c.args.row.now (add_scaled (galois c.args.field.now.number) c.args.d c.args.late.now c.args.difference.now)
    c.args.cost c.min-count.result (min c.args.most (size c.args.field.now.number - 1)) (rw c.size-all.ensures at c.min-count.ensures) c.try_half.ensures

pub try_half-first-requires : goal.try_half-first-requires
try_half-first-requires c =
    let few : c.min-count.result ≤ size c.args.field.now.number - 1 = omega (arith, c.min-count.ensures, c.size-all.ensures) in
    record { rows = (c.requires.rows.0, c.requires.rows.1, in_low c.args.field.now.tables.field few c.if-count-lt128.false) }

pub try_half-requires-2 : goal.try_half-requires-2
try_half-requires-2 c =
    let few : c.min-count.result ≤ size c.args.field.now.number - 1 = omega (arith, c.min-count.ensures, c.size-all.ensures) in
    record { rows = (c.requires.rows.0, c.requires.rows.1, in_high c.args.field.now.tables.field few c.if-count-lt128.false) }

pub returns : goal.returns
returns c =
    tried_both (galois c.args.field.now.number) c.args.trusts.now c.args.row.now (add_scaled (galois c.args.field.now.number) c.args.d c.args.late.now c.args.difference.now)
    c.args.cost 127 c.min-count.result (min c.args.most (size c.args.field.now.number - 1)) refl c.if-count-lt128.false (rw c.size-all.ensures at c.min-count.ensures)
    c.try_half-first.ensures c.try_half-2.ensures
