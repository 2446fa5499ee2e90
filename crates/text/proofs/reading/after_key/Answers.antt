use mathlib.Core.Path.{refl, sym, ◌∙◌}
use native.Mathlib.Omega.{arith}
use Rattle.text.proofs.Texts.{key_fails, key_turn, key_ends, next_there}
use Rattle.text.proofs.reading.after_key.Goals as goal

pub loop-i-init : goal.loop-i-init
loop-i-init c = refl

pub returns-then-not-is_next : goal.returns-then-not-is_next
returns-then-not-is_next c =
    key_fails c.args.key.now c.args.s.now c.loop-i.i c.loop-i.at c.loop-i.invariant (omega arith) (sym c.is_next.ensures ∙ c.if-not-is_next.true)

pub overflow_add-at : goal.overflow_add-at
overflow_add-at c =
    omega (arith, next_there _ c.args.s.now c.loop-i.at (sym c.is_next.ensures ∙ c.if-not-is_next.false))

pub loop-i-preserved : goal.loop-i-preserved
loop-i-preserved c =
    key_turn c.args.key.now c.args.s.now c.loop-i.i c.loop-i.at c.loop-i.invariant (omega arith) (sym c.is_next.ensures ∙ c.if-not-is_next.false)

pub returns : goal.returns
returns c =
    key_ends c.args.key.now c.args.s.now c.loop-i.i c.loop-i.at c.loop-i.invariant (omega arith)
