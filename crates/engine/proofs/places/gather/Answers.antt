use mathlib.Core.Path.{◌∙◌, ap}
use native.Mathlib.Omega.{arith}
use lib.ListN.{get_or}
use Prim.Native.Nat.{◌-◌}
use Rattle.basics.proofs.Loops.{filled_turn}
use Rattle.engine.proofs.places.gather.Goals as goal

pub loop-i-preserved : goal.loop-i-preserved
loop-i-preserved c =
    filled_turn _ _ _ (omega arith) c.loop-i.invariant (ap (λ j. get_or c.args.from.now j 0) (c.index_of.ensures ∙ ap (λ p. p - 1) c.chosen_place-place.ensures))
