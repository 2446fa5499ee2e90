use Prim.Native.Nat.{◌+◌, ◌*◌, ◌-◌, ◌/◌, ◌%◌, ◌^◌}
use mathlib.Core.Path.{◌≡◌, sym, ◌∙◌, subst}
use mathlib.Core.Bool.{true}
use native.Mathlib.Nat.{add-zero}
use native.Mathlib.Omega.{arith}
use borrow.Author.Tests.{eq-eqb, ne_eqb}
use lib.Dec.{eqb}
use Rattle.code.specs.Heard.{heard_at}
use Rattle.code.proofs.Words.{silent, silent_none, silent_more, not_silent}
use Rattle.code.proofs.heard.none_past.Goals as goal

pub loop-w-init : goal.loop-w-init
loop-w-init c =
    (silent_none (heard_at c.args.mask.now) c.args.n (64 * (c.args.n / 64) + c.args.n % 64) (omega arith), omega arith, omega arith, omega arith)

-- whether no place past n is heard up to the end of the word that was read
turn : (c : goal.Then-word-from-ne0) →
    silent (heard_at c.args.mask.now) c.args.n (64 * (c.loop-w.w + 1) - c.args.n)
    ≡ eqb (c.word.result / 2 ^ c.loop-w.from) 0
turn c =
    silent_more c.args.mask.now (λ i. (c.type_inv.mask i).fits) c.loop-w.w c.args.n c.loop-w.from c.loop-w.invariant.1 (omega arith)
    (omega (arith, c.word.ensures))
    ∙ rw (c.loop-w.invariant.0, ← c.word.ensures)

pub returns-then-word-from-ne0 : goal.returns-then-word-from-ne0
returns-then-word-from-ne0 c =
    sym (not_silent c.args.mask.now c.args.n (64 * (c.loop-w.w + 1) - c.args.n) (omega arith) (turn c ∙ ne_eqb _ _ c.if-word-from-ne0.true))

-- whether no place past n is heard up to the end of the word that was read
turn_2 : (c : goal.Else-word-from-ne0) →
    silent (heard_at c.args.mask.now) c.args.n (64 * (c.loop-w.w + 1) - c.args.n)
    ≡ eqb (c.word.result / 2 ^ c.loop-w.from) 0
turn_2 c =
    silent_more c.args.mask.now (λ i. (c.type_inv.mask i).fits) c.loop-w.w c.args.n c.loop-w.from c.loop-w.invariant.1 (omega arith)
    (omega (arith, c.word.ensures))
    ∙ rw (c.loop-w.invariant.0, ← c.word.ensures)

pub loop-w-preserved : goal.loop-w-preserved
loop-w-preserved c = (rw add-zero (turn_2 c ∙ eq-eqb _ _ c.if-word-from-ne0.false), omega arith, omega arith, omega arith)

pub returns : goal.returns
returns c =
    let end : 64 * c.loop-w.w + c.loop-w.from ≡ 320 = omega arith in
    sym (subst (λ m. silent (heard_at c.args.mask.now) c.args.n (m - c.args.n) ≡ true) end c.loop-w.invariant.0)
