-- The correction has no more coefficients than L and F, and zeros make it k.
use mathlib.Core.Path.{ap}
use mathlib.Core.Bool.{cond}
use native.Mathlib.Omega.{arith}
use lib.ListN.{take}
use Rattle.basics.proofs.Lists.{holds_as, holds_length}
use Rattle.field.specs.Galois.{galois}
use Rattle.elliptic.specs.Pair.{corrected, padded}
use Rattle.solving.proofs.Interpolant.{take_most, corrected_length, padded_holds}
use Rattle.solving.proofs.solve.finish_at.Goals as goal

pub extend-requires : goal.extend-requires
extend-requires c =
    let low = take c.args.n.pair.low (cond c.args.n.pair.turned c.args.u.now c.args.l.now) in
    let word = take c.args.n.word c.args.f.now in
    let h = corrected_length (galois c.args.field.now.number) c.point_at-p.result c.args.v c.args.k low word (omega (arith, take_most c.args.n.pair.low (cond c.args.n.pair.turned c.args.u.now c.args.l.now), c.requires.place.3)) (omega (arith, take_most c.args.n.word c.args.f.now, c.requires.place.4)) in
    (omega (arith, holds_length c.finish-size.ensures, h), omega (arith, c.finish-size.auto.f, c.requires.place.5))

pub returns : goal.returns
returns c =
    holds_as (padded_holds c.finish-size.ensures c.extend.ensures (omega (arith, c.finish-size.auto.f, c.extend.auto.f, c.requires.place.5)))
    (ap (λ P. padded c.args.k (corrected (galois c.args.field.now.number) P c.args.v (take c.args.n.pair.low (cond c.args.n.pair.turned c.args.u.now c.args.l.now)) (take c.args.n.word c.args.f.now))) c.point_at-p.ensures)
