use Prim.Native.Nat.{◌-◌}
use mathlib.Core.Path.{◌≡◌, ◌∙◌, ap}
use lib.ListN.{get_or}
use Rattle.arrangement.proofs.Arranged.{free_turn}
use Rattle.arrangement.proofs.arrange.mark.Goals as goal

pub loop-j-preserved : goal.loop-j-preserved
loop-j-preserved c =
    let places = rw (← c.fill_ones.auto.out) at c.requires.0 in
    let index : c.index_of-i.result ≡ get_or c.args.places.now c.loop-j.j 0 - 1 = c.index_of-i.ensures ∙ ap (λ p. p - 1) c.chosen_place-place.ensures in
    rw index (free_turn c.args.places.now _ c.loop-j.j places c.loop-j-test.true c.loop-j.invariant)
