-- The length, the first three lines, and then the last two.
use mathlib.Core.Path.{sym, ◌∙◌, ap}
use native.Mathlib.Omega.{arith}
use Rattle.text.specs.Stages.{header_in}
use Rattle.text.proofs.Sheets.{none, too_long, no_header, as_lists}
use Rattle.text.proofs.sheet.read_sheet.Goals as goal

pub returns-then-s-gt-MOST : goal.returns-then-s-gt-MOST
returns-then-s-gt-MOST c = none _ _ (too_long c.args.s.now c.if-s-gt-MOST.true)

pub returns-in_err-top : goal.returns-in_err-top
returns-in_err-top c =
    rw c.from_residual.ensures
    (none _ _ (no_header c.args.s.now (omega (arith, c.if-s-gt-MOST.false)) (sym c.read_header.ensures ∙ ap (header_in c.args.s.now) c.in_err-top.was)))

pub returns : goal.returns
returns c =
    rw (as_lists c.args.s.now (omega (arith, c.if-s-gt-MOST.false)) _ _ (sym c.read_header.ensures ∙ ap (header_in c.args.s.now) c.in_ok-top.was)) at c.read_lists.ensures
