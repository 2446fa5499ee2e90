-- Past the end there is no byte.
use mathlib.Core.Path.{sym}
use native.Mathlib.Omega.{arith}
use Rattle.text.proofs.Texts.{next_in, next_past}
use Rattle.text.proofs.reading.is_next.Goals as goal

pub returns-then-s-at : goal.returns-then-s-at
returns-then-s-at c = sym (next_past _ _ _ c.if-s-at.true)

pub returns : goal.returns
returns c =
    sym (next_in c.args.b c.args.s.now c.args.at (omega arith))
