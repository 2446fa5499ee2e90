-- First the chosen coordinates, and then the others behind them.
use mathlib.Core.Path.{sym}
use lib.Seq.{length-take-le}
use Rattle.arrangement.proofs.Arranged.{places_fit, front_gathered, front_arrangeable}
use Rattle.arrangement.proofs.arrange.arrange.Goals as goal

pub slice_bounds-gather-end : goal.slice_bounds-gather-end
slice_bounds-gather-end c = places_fit c.requires

pub slice_bounds-gather-end-2 : goal.slice_bounds-gather-end-2
slice_bounds-gather-end-2 c = sym (length-take-le _ _ (places_fit c.requires))

pub place_rest-requires : goal.place_rest-requires
place_rest-requires c =
    record { arrangeable = front_arrangeable c.requires c.gather.new.out c.gather.auto.out; gathered = front_gathered c.requires c.gather.ensures }
