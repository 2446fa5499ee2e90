-- The room, and then the answer.
use native.Mathlib.Omega.{arith}
use Rattle.sheet.proofs.Whole.{too_short, answered}
use Rattle.sheet.proofs.answer.answer_sheet.Goals as goal

pub returns-then-out-lt-ROOM : goal.returns-then-out-lt-ROOM
returns-then-out-lt-ROOM c = too_short c.args.s.now c.args.out.now (omega (arith, c.if-out-lt-ROOM.true))

pub returns : goal.returns
returns c = answered c.args.s.now c.args.out.now _ _ (omega (arith, c.if-out-lt-ROOM.false)) c.answer_read.ensures.0 c.answer_read.ensures.1
