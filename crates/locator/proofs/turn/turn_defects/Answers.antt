-- The parts of the arrays behind the place are lent.
use native.Mathlib.Omega.{arith}
use Rattle.locator.proofs.Parts.{raised_part, gained_part}
use Rattle.locator.proofs.turn.turn_defects.Goals as goal

pub returns : goal.returns
returns c = (
  raised_part c.args.field.now.number c.args.i _ c.args.xs.now c.args.p.now c.requires.i_in_bounds.0 c.requires.p_len.0 c.pass.ensures.0,
  gained_part c.args.field.now.number c.args.i c.args.ts.a c.args.p.now c.args.a.now (omega (arith, c.requires.i_in_bounds.0, c.requires.p_len.0)) (omega (arith, c.requires.p_len.0, c.requires.p_len.1)) c.pass.ensures.1,
  gained_part c.args.field.now.number c.args.i c.args.ts.b c.args.p.now c.args.b.now (omega (arith, c.requires.i_in_bounds.0, c.requires.p_len.0)) (omega (arith, c.requires.p_len.0, c.requires.p_len.2)) c.pass.ensures.2,
  gained_part c.args.field.now.number c.args.i c.args.ts.c c.args.p.now c.args.c.now (omega (arith, c.requires.i_in_bounds.0, c.requires.p_len.0)) (omega (arith, c.requires.p_len.0, c.requires.p_len.3)) c.pass.ensures.3,
)
