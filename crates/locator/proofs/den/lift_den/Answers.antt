-- The row is widened by zeros, as far as there is room, and its coefficients are lent.
use mathlib.Core.Path.{◌∙◌, ap}
use Rattle.locator.specs.Arrays.{longer}
use Rattle.locator.proofs.Dens.{lifts, lifts_none}
use Rattle.locator.proofs.den.lift_den.Goals as goal

pub returns-then-s-eq0 : goal.returns-then-s-eq0
returns-then-s-eq0 c = lifts_none c.args.field.now.tables.field c.args.alpha c.args.room c.args.s c.args.row.now c.if-s-eq0.true

pub returns : goal.returns
returns c =
    lifts c.args.field.now.tables.field c.args.alpha c.args.room c.args.s c.requires.room_nonzero.2 c.requires.room_nonzero.3 (c.widen-r.ensures.0 ∙ ap (longer c.args.s) c.shorter-wide.ensures) c.widen-r.ensures.1 c.times_linear.ensures
