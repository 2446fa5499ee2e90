use mathlib.Core.Path.{◌∙◌, ap₂}
use mathlib.Core.Bool.{◌&&◌}
use native.Mathlib.Omega.{arith}
use lib.Dec.{leb}
use Rattle.code.specs.Lists.{is_place}
use Rattle.code.proofs.Marking.{element, all_next, all_ends}
use Rattle.code.proofs.lists.all_places.Goals as goal

pub loop-place-preserved : goal.loop-place-preserved
loop-place-preserved c =
    ap₂ (λ b p. b && (leb 1 p && leb p c.args.n)) c.loop-place.invariant c.from-p.ensures ∙ all_next (is_place c.args.n) (element c.args.places.now) c.loop-place.place-index

pub returns : goal.returns
returns c =
    all_ends (is_place c.args.n) c.args.places.now c.loop-place.place-index c.loop-place.invariant (omega arith)
