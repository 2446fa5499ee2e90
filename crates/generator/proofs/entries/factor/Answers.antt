-- The looked up logarithm stands for its number in every product.
use mathlib.Core.Path.{refl}
use Rattle.engine.proofs.Laws.{logged, by_logged}
use Rattle.generator.proofs.entries.factor.Goals as goal

pub returns : goal.returns
returns c =
    let k = c.args.field.now.tables.field in
    record { is_log = logged k c.ranges.a.fits c.logarithm.ensures; times = λ b. by_logged k c.ranges.a.fits c.logarithm.ensures b refl }
