use native.Mathlib.Numerals.{add-one}
use Rattle.locator.proofs.step.run.Goals as goal

pub loop-i-init : goal.loop-i-init
loop-i-init c = c.requires.after

pub loop-i-preserved : goal.loop-i-preserved
loop-i-preserved c = rw (add-one c.loop-i.i) c.step-heads.ensures
