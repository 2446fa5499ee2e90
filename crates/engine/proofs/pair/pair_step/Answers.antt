-- By cases of whether L is zero at the place.
use mathlib.Core.Path.{refl}
use native.Mathlib.Omega.{arith}
use mathlib.Core.List.{[]}
use mathlib.Core.Bool.{false}
use lib.ListN.{take}
use Rattle.field.specs.Galois.{galois}
use Rattle.elliptic.specs.Pair.{held}
use Rattle.engine.proofs.States.{step_zero, step_other, kept_pair}
use Rattle.engine.proofs.pair.pair_step.Goals as goal

pub returns-then-at-eq0 : goal.returns-then-at-eq0
returns-then-at-eq0 c =
    let l = take c.args.n.low c.args.l.now in
    let u = take c.args.n.high c.args.u.now in
    rw (← step_zero (galois c.args.field.now.number) c.args.p 0 (held false l u []) c.value-at.ensures c.if-at-eq0.true)
    (kept_pair c.args.field.now.number c.args.p 0 l u [] refl (record { within = omega (arith, c.requires.room); first = refl }) c.raise-high.ensures)

pub returns : goal.returns
returns c =
    let l = take c.args.n.low c.args.l.now in
    let u = take c.args.n.high c.args.u.now in
    rw (← step_other (galois c.args.field.now.number) c.args.p 0 (held false l u []) c.value-at.ensures c.if-at-eq0.false) c.advance.ensures
