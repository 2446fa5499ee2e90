-- The coefficients are copied, and zeros put behind them.
use Rattle.engine.proofs.Laws.{padded_as}
use Rattle.interpolation.proofs.write.write_function.Goals as goal

pub returns : goal.returns
returns c =
    padded_as c.args.f.now c.copy.new.out c.extend.new.f c.args.n _ c.requires.0 c.copy.auto.out c.extend.auto.f c.copy.ensures c.extend.ensures
