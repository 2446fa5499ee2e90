-- No coefficient is passed, and the pair is zero.
use mathlib.Core.Path.{refl}
use Rattle.engine.proofs.Laws.{horner_start}
use Rattle.evaluation.proofs.lanes.begin.Goals as goal

pub returns : goal.returns
returns c =
    record { byte = c.ranges.x.fits; is_x = refl; is_log = c.logarithm.ensures; passed = horner_start c.args.field.now.number c.args.x c.args.f.now }
