-- A digit, and then those behind it.
use mathlib.Core.Path.{sym, ◌∙◌}
use native.Mathlib.Omega.{arith}
use Rattle.text.proofs.Texts.{no_number, no_digit, first_digit}
use Rattle.text.proofs.reading.read_number.Goals as goal

pub returns-then-s-start : goal.returns-then-s-start
returns-then-s-start c = no_number _ _ c.if-s-start.true

pub returns-then-not-is_digit : goal.returns-then-not-is_digit
returns-then-not-is_digit c =
    no_digit c.args.s.now c.args.start (omega arith) (sym c.is_digit.ensures ∙ c.if-not-is_digit.true)

pub digit-requires : goal.digit-requires
digit-requires c = sym c.is_digit.ensures ∙ c.if-not-is_digit.false

pub returns : goal.returns
returns c =
    c.more_digits.ensures ∙ rw c.digit.ensures.0 (first_digit c.args.s.now c.args.start (omega arith) (sym c.is_digit.ensures ∙ c.if-not-is_digit.false))
