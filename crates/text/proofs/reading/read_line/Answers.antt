-- Key, numbers and line end, one after the other.
use mathlib.Core.Path.{sym, ◌∙◌, ap}
use native.Mathlib.Omega.{arith}
use lib.ListN.{length, drop}
use Rattle.text.specs.Text.{line_end}
use Rattle.text.specs.Stages.{found_in, list_in}
use Rattle.text.proofs.Texts.{next_there, behind}
use Rattle.text.proofs.Numbers.{lists_none}
use Rattle.text.proofs.Lines.{no_key, no_list, no_end, whole_line}
use Rattle.text.proofs.reading.read_line.Goals as goal

pub returns-in_err-at : goal.returns-in_err-at
returns-in_err-at c =
    rw c.from_residual.ensures
    (lists_none c.args.s.now _ (no_key c.args.key.now _ (drop c.args.start c.args.s.now) (sym c.after_key.ensures ∙ ap (found_in c.args.s.now) c.in_err-at.was)))

pub returns-in_err-listed : goal.returns-in_err-listed
returns-in_err-listed c =
    rw c.from_residual-in_err-listed.ensures
    (lists_none c.args.s.now _ (no_list c.args.key.now _ (drop c.args.start c.args.s.now) _ (sym c.after_key.ensures ∙ ap (found_in c.args.s.now) c.in_ok-at.was)
    (sym c.read_numbers.ensures.reads ∙ ap (list_in c.args.s.now _) c.in_err-listed.was)))

pub returns-then-not-is_next : goal.returns-then-not-is_next
returns-then-not-is_next c =
    lists_none c.args.s.now _ (no_end c.args.key.now _ (drop c.args.start c.args.s.now) _ (sym c.after_key.ensures ∙ ap (found_in c.args.s.now) c.in_ok-at.was) _ _
    (sym c.read_numbers.ensures.reads ∙ ap (list_in c.args.s.now c.read_numbers.new.out) c.in_ok-listed.was) (sym c.is_next.ensures ∙ c.if-not-is_next.true))

pub overflow_add-result : goal.overflow_add-result
overflow_add-result c =
    omega (arith, next_there line_end c.args.s.now c.in_ok-listed.listed.next (sym c.is_next.ensures ∙ c.if-not-is_next.false))

pub returns : goal.returns
returns c =
    record {
      reads = rw (← behind c.args.s.now c.in_ok-listed.listed.next)
          (whole_line c.args.key.now (length c.args.out.now) (drop c.args.start c.args.s.now) _ (sym c.after_key.ensures ∙ ap (found_in c.args.s.now) c.in_ok-at.was) _ _
          (sym c.read_numbers.ensures.reads ∙ ap (list_in c.args.s.now c.read_numbers.new.out) c.in_ok-listed.was) (sym c.is_next.ensures ∙ c.if-not-is_next.false));
      within = rw c.in_ok-listed.was at c.read_numbers.ensures.within;
    }
