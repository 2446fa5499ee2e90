use mathlib.Core.Path.{◌≡◌, ◌∙◌, ap}
use native.Mathlib.Omega.{arith}
use lib.ListN.{length}
use Rattle.correction.specs.Kept.{kept_before}
use Rattle.correction.proofs.Counting.{none_kept, count_more, count_few}
use Rattle.correction.proofs.kept.count.Goals as goal

pub loop-x-init : goal.loop-x-init
loop-x-init c = none_kept _

pub more-c-requires : goal.more-c-requires
more-c-requires c = omega (arith, count_few c.args.e.now c.loop-x.x-index)

pub loop-x-preserved : goal.loop-x-preserved
loop-x-preserved c = count_more _ c.loop-x.x-index c.loop-x.invariant c.more-c.ensures

pub returns : goal.returns
returns c =
    let full : c.loop-x.x-index ≡ length c.args.e.now = omega arith in
    c.loop-x.invariant ∙ ap (λ i. length (kept_before c.args.e.now i)) full
