-- Two lines, one after the other, and then the end.
use mathlib.Core.Path.{sym, ◌∙◌, ap}
use native.Mathlib.Omega.{arith}
use lib.ListN.{drop, length-drop}
use Rattle.text.specs.Stages.{list_in}
use Rattle.text.proofs.Sheets.{none, no_places, no_message, more_text, all_read}
use Rattle.text.proofs.sheet.read_lists.Goals as goal

pub returns-in_err-first : goal.returns-in_err-first
returns-in_err-first c =
    rw c.from_residual.ensures
    (none _ _ (no_places (drop c.args.start c.args.s.now) c.args.head
    (rw c.requires.0 at (sym c.read_line.ensures.reads ∙ ap (list_in c.args.s.now c.read_line.new.out) c.in_err-first.was))))

pub returns-in_err-second : goal.returns-in_err-second
returns-in_err-second c =
    rw c.from_residual-in_err-second.ensures
    (none _ _ (no_message (drop c.args.start c.args.s.now) c.args.head _ _
    (rw c.requires.0 at (sym c.read_line.ensures.reads ∙ ap (list_in c.args.s.now c.read_line.new.out) c.in_ok-first.was))
    (rw c.requires.1 at (sym c.read_line-2.ensures.reads ∙ ap (list_in c.args.s.now c.read_line-2.new.out) c.in_err-second.was))))

pub returns-then-second-s : goal.returns-then-second-s
returns-then-second-s c =
    none _ _ (more_text (drop c.args.start c.args.s.now) c.args.head _ _
    (rw c.requires.0 at (sym c.read_line.ensures.reads ∙ ap (list_in c.args.s.now c.read_line.new.out) c.in_ok-first.was)) _ _
    (rw c.requires.1 at (sym c.read_line-2.ensures.reads ∙ ap (list_in c.args.s.now c.read_line-2.new.out) c.in_ok-second.was))
    (rw (length-drop c.in_ok-second.second.next c.args.s.now) (λ e. omega (arith, e, c.if-second-s.true))))

pub returns : goal.returns
returns c =
    record {
      reads = all_read (drop c.args.start c.args.s.now) c.args.head _ _
          (rw c.requires.0 at (sym c.read_line.ensures.reads ∙ ap (list_in c.args.s.now c.read_line.new.out) c.in_ok-first.was)) _ _
          (rw c.requires.1 at (sym c.read_line-2.ensures.reads ∙ ap (list_in c.args.s.now c.read_line-2.new.out) c.in_ok-second.was))
          (rw (length-drop c.in_ok-second.second.next c.args.s.now) (omega (arith, c.if-second-s.false)));
      places_within = rw c.in_ok-first.was at c.read_line.ensures.within;
      symbols_within = rw c.in_ok-second.was at c.read_line-2.ensures.within;
    }
