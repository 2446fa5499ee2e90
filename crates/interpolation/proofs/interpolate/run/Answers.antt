use mathlib.Core.Path.{◌≡◌, refl}
use Prim.Native.Nat.{zero-le}
use native.Mathlib.Omega.{arith}
use Rattle.field.specs.Galois.{galois}
use Rattle.elliptic.specs.Pair.{after}
use Rattle.engine.proofs.States.{begins, room, word_room}
use Rattle.engine.proofs.Runs.{run_more}
use Rattle.interpolation.proofs.interpolate.run.Goals as goal

pub loop-i-init : goal.loop-i-init
unfolding after
loop-i-init c =
    record {
      pair = begins c.first_sizes.ensures.0 c.first_sizes.ensures.1 c.first_sizes.ensures.2 (omega (arith, c.requires.runs.1.0)) (omega (arith, c.requires.runs.1.1)) c.begin.ensures.0 c.begin.ensures.1;
      word = record { within = zero-le; first = refl };
    }

pub point_at-p-requires : goal.point_at-p-requires
point_at-p-requires c =
    rw c.chosen_place-place.ensures (c.requires.runs.0.within.each_is_place c.loop-i.i c.loop-i-test.true)

pub turn-n-requires : goal.turn-n-requires
turn-n-requires c =
    let small = c.requires.runs.0.small c.loop-i.i c.loop-i-test.true in
    record { room = (room c.loop-i.invariant.pair small (omega (arith, c.requires.runs.1.0), omega (arith, c.requires.runs.1.1)), word_room c.loop-i.invariant small (omega (arith, c.requires.runs.3))) }

pub loop-i-preserved : goal.loop-i-preserved
loop-i-preserved c =
    let point = rw c.chosen_place-place.ensures at c.point_at-p.ensures in
    let filled = rw c.message_symbol-v.ensures at c.turn-n.ensures in
    run_more c.args.xs.now c.args.ys.now c.args.places.now c.loop-i.i (omega (arith, c.loop-i-test.true, c.requires.runs.0.within.enough)) (galois c.args.field.now.number) c.args.symbols.now point c.loop-i.invariant filled

pub returns : goal.returns
returns c = let full : c.loop-i.i ≡ c.args.count = omega arith in rw (← full) c.loop-i.invariant
