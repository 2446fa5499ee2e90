use mathlib.Core.Path.{◌≡◌}
use native.Mathlib.Omega.{arith}
use mathlib.Core.List.{[]}
use Rattle.field.specs.Galois.{galois}
use Rattle.elliptic.specs.Pair.{after}
use Rattle.engine.proofs.States.{begins, room}
use Rattle.engine.proofs.Runs.{run_pair_more}
use Rattle.interpolation.proofs.interpolate.run_pair.Goals as goal

pub loop-i-init : goal.loop-i-init
unfolding after
loop-i-init c =
    begins c.first_sizes-n.ensures.0 c.first_sizes-n.ensures.1 c.first_sizes-n.ensures.2 (omega (arith, c.requires.runs.1.0)) (omega (arith, c.requires.runs.1.1)) c.begin.ensures.0 c.begin.ensures.1

pub point_at-p-requires : goal.point_at-p-requires
point_at-p-requires c =
    rw c.chosen_place-place.ensures (c.requires.runs.0.within.each_is_place c.loop-i.i c.loop-i-test.true)

pub pair_turn-n-requires : goal.pair_turn-n-requires
pair_turn-n-requires c =
    record { room = room c.loop-i.invariant (c.requires.runs.0.small c.loop-i.i c.loop-i-test.true) (omega (arith, c.requires.runs.1.0), omega (arith, c.requires.runs.1.1)) }

pub loop-i-preserved : goal.loop-i-preserved
loop-i-preserved c =
    let point = rw c.chosen_place-place.ensures at c.point_at-p.ensures in
    run_pair_more c.args.xs.now c.args.ys.now c.args.places.now c.loop-i.i (omega (arith, c.loop-i-test.true, c.requires.runs.0.within.enough)) (galois c.args.field.now.number) [] point c.loop-i.invariant c.pair_turn-n.ensures

pub returns : goal.returns
returns c = let full : c.loop-i.i ≡ c.args.count = omega arith in rw (← full) c.loop-i.invariant
