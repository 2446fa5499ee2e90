-- By cases of whether L is zero at the place: F is corrected by L, or else by U.
use mathlib.Core.Path.{refl}
use native.Mathlib.Omega.{arith}
use mathlib.Core.Bool.{false}
use lib.ListN.{take}
use Rattle.field.specs.Galois.{galois}
use Rattle.elliptic.specs.Pair.{held}
use Rattle.engine.proofs.States.{step_zero, step_other, kept_filled, stepped_filled}
use Rattle.engine.proofs.pair.step.Goals as goal

pub returns-then-at_l-eq0 : goal.returns-then-at_l-eq0
returns-then-at_l-eq0 c =
    let l = take c.args.n.pair.low c.args.l.now in
    let u = take c.args.n.pair.high c.args.u.now in
    let f = take c.args.n.word c.args.f.now in
    rw (← step_zero (galois c.args.field.now.number) c.args.p c.args.v (held false l u f) c.value-at_l.ensures c.if-at_l-eq0.true)
    (kept_filled c.args.field.now.number c.args.p c.args.v l u f refl (record { within = omega (arith, c.requires.room); first = refl }) c.raise-raised.ensures c.complete-word.ensures)

pub returns : goal.returns
returns c =
    let l = take c.args.n.pair.low c.args.l.now in
    let u = take c.args.n.pair.high c.args.u.now in
    let f = take c.args.n.word c.args.f.now in
    rw (← step_other (galois c.args.field.now.number) c.args.p c.args.v (held false l u f) c.value-at_l.ensures c.if-at_l-eq0.false)
    (stepped_filled c.args.field.now.number c.args.p c.args.v l u f c.advance-pair.ensures c.correct-word.ensures)
