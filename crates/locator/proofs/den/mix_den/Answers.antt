-- The row is widened, and the multiple of p added to it.
use Rattle.locator.proofs.Dens.{mixes}
use Rattle.locator.proofs.den.mix_den.Goals as goal

pub returns : goal.returns
returns c =
    mixes c.args.field.now.tables.field c.args.t c.args.sp c.args.p.now c.args.s c.requires.sp_in_bounds.0 c.requires.sp_in_bounds.1 c.requires.sp_in_bounds.2 c.widen-r.ensures.0 c.widen-r.ensures.1 c.add_scaled.ensures
