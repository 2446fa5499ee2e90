use mathlib.Core.Bool.{true}
use mathlib.Core.Path.{◌≡◌, refl, sym, ◌∙◌}
use native.Mathlib.Omega.{arith}
use lib.ListN.{get_or}
use Rattle.text.specs.Reading.{is_digit}
use Rattle.text.proofs.Texts.{digits_end, digits_stop, behind_zero, too_large, digit_turn}
use Rattle.text.proofs.reading.more_digits.Goals as goal

pub loop-at-init : goal.loop-at-init
loop-at-init c = (c.requires, refl)

pub returns-then-not-is_digit : goal.returns-then-not-is_digit
returns-then-not-is_digit c =
    digits_stop c.args.s.now c.loop-at.value c.loop-at.at c.loop-at.invariant.1 (omega arith) (sym c.is_digit.ensures ∙ c.if-not-is_digit.true)

pub returns-then-value-eq0 : goal.returns-then-value-eq0
returns-then-value-eq0 c =
    behind_zero c.args.s.now c.loop-at.value c.loop-at.at c.loop-at.invariant.1 (omega arith) (sym c.is_digit.ensures ∙ c.if-not-is_digit.false) c.if-value-eq0.true

pub digit-requires : goal.digit-requires
digit-requires c = sym c.is_digit.ensures ∙ c.if-not-is_digit.false

-- the byte is a digit
is_one : (c : goal.Then-value-ge65536) → is_digit (get_or c.args.s.now c.loop-at.at 0) ≡ true
is_one c = sym c.is_digit.ensures ∙ c.if-not-is_digit.false

pub returns-then-value-ge65536 : goal.returns-then-value-ge65536
returns-then-value-ge65536 c =
    too_large c.args.s.now c.loop-at.value c.loop-at.at c.loop-at.invariant.1 (omega arith) (is_one c) (omega arith) (omega (arith, c.digit.ensures.0, c.if-value-ge65536.true))

-- the byte is a digit
is_one_2 : (c : goal.Else-value-ge65536) → is_digit (get_or c.args.s.now c.loop-at.at 0) ≡ true
is_one_2 c = sym c.is_digit.ensures ∙ c.if-not-is_digit.false

pub loop-at-preserved : goal.loop-at-preserved
loop-at-preserved c = (
  omega arith,
  rw c.digit.ensures.0 (digit_turn c.args.s.now c.loop-at.value c.loop-at.at c.loop-at.invariant.1 (omega arith) (is_one_2 c) (omega arith) (omega (arith, c.digit.ensures.0, c.if-value-ge65536.false))),
)

pub returns : goal.returns
returns c =
    digits_end c.args.s.now c.loop-at.value c.loop-at.at c.loop-at.invariant.1 (omega arith)
