use Prim.Native.Nat.{◌-◌}
use mathlib.Core.Path.{◌≡◌, ◌∙◌, ap}
use native.Mathlib.Omega.{arith}
use lib.ListN.{get_or}
use Rattle.solving.proofs.Restored.{put_none, put_turn, places_fit}
use Rattle.solving.proofs.restore.restore.Goals as goal

pub loop-j-init : goal.loop-j-init
loop-j-init c = put_none c.restore_free.ensures

pub bounds-w-j : goal.bounds-w-j
bounds-w-j c = omega (arith, c.loop-j-test.true, places_fit c.requires)

-- the index of the place of this turn
index : (c : goal.After-shared_slice_known-in-loop-j-1) → c.index_of-i.result ≡ get_or c.args.places.now c.loop-j.j 0 - 1
index c = c.index_of-i.ensures ∙ ap (λ p. p - 1) c.chosen_place-place.ensures

pub loop-j-preserved : goal.loop-j-preserved
loop-j-preserved c = rw (index c) (put_turn c.requires c.loop-j.invariant c.loop-j-test.true)
