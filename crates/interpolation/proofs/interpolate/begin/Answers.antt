-- Four stores.
use native.Mathlib.Omega.{arith}
use Rattle.engine.proofs.States.{begun}
use Rattle.interpolation.proofs.interpolate.begin.Goals as goal

pub returns : goal.returns
returns c = begun c.args.l.now c.args.u.now (omega arith) (omega arith)
