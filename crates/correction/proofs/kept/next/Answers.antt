use mathlib.Core.Path.{◌≡◌, ◌∙◌, ap}
use native.Mathlib.Omega.{arith}
use lib.ListN.{length}
use Rattle.correction.specs.Kept.{kept_before}
use Rattle.correction.proofs.Counting.{skip}
use Rattle.correction.proofs.kept.next.Goals as goal

pub returns-then-e-i-ne0 : goal.returns-then-e-i-ne0
returns-then-e-i-ne0 c = record { from = omega arith; within = omega arith; keeps = λ h. c.if-e-i-ne0.true; none_between = c.loop-i.invariant }

pub loop-i-preserved : goal.loop-i-preserved
loop-i-preserved c = skip _ c.loop-i.i _ c.if-e-i-ne0.false c.loop-i.invariant

pub returns : goal.returns
returns c =
    let full : length c.args.e.now ≡ c.loop-i.i = omega arith in
    record { from = c.requires; within = omega arith; keeps = λ h. absurd (omega arith); none_between = ap (kept_before c.args.e.now) full ∙ c.loop-i.invariant }
