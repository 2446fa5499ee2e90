use mathlib.Core.Path.{◌≡◌, refl, ◌∙◌}
use native.Mathlib.Omega.{arith}
use Rattle.elliptic.specs.Pair.{after}
use Rattle.values.proofs.Runs.{begins, begun_size, fits}
use Rattle.two_places.proofs.run.run_pair.Goals as goal

pub loop-i-init : goal.loop-i-init
unfolding after
loop-i-init c =
    (omega arith, begins c.args.field.now.tables.field c.requires.coordinates.0 c.first_sizes-n.ensures.0 c.first_sizes-n.ensures.1 c.first_sizes-n.ensures.2 c.requires.coordinates.1 refl)

pub advance_turn-d-requires : goal.advance_turn-d-requires
advance_turn-d-requires c =
    let room = fits (c.loop-i.auto.l ∙ begun_size c.requires.coordinates.0 c.requires.coordinates.1) (c.loop-i.auto.u ∙ c.requires.coordinates.0.as_many) (c.requires.runs_first.small c.loop-i.i c.loop-i-test.true) c.loop-i.invariant.1 in
    record { i_lt_count = (c.loop-i-test.true, c.requires.runs_first.enough, c.requires.coordinates.2, room) }

pub loop-i-preserved : goal.loop-i-preserved
loop-i-preserved c = (c.advance_turn-d.ensures.within, c.advance_turn-d.ensures.next c.args.u.now c.requires.runs_first c.loop-i.invariant.1)

pub returns : goal.returns
returns c = let full : c.loop-i.i ≡ c.args.count = omega arith in rw (← full) c.loop-i.invariant.1
