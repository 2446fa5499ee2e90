use mathlib.Core.Path.{sym, ◌∙◌, ap}
use native.Mathlib.Omega.{arith}
use lib.ListN.{length, take, drop}
use Rattle.text.specs.Stages.{number_in}
use Rattle.text.proofs.Numbers.{full, no_more, last_number, next_number, start, one_set, lists_none, lists_last}
use Rattle.text.proofs.Texts.{next_there, behind}
use Rattle.text.proofs.reading.read_numbers.Goals as goal

pub loop-count-init : goal.loop-count-init
loop-count-init c = start _ _

pub returns-in_err-read : goal.returns-in_err-read
returns-in_err-read c =
    rw c.from_residual.ensures
    (lists_none c.args.s.now c.loop-count.out
    (no_more (length c.args.out.now) c.loop-count.count (take c.loop-count.count c.loop-count.out) (drop c.loop-count.at c.args.s.now) c.loop-count.invariant (omega arith)
    (sym c.read_number.ensures ∙ ap (number_in c.args.s.now) c.in_err-read.was)))

pub returns-then-not-is_next : goal.returns-then-not-is_next
returns-then-not-is_next c =
    lists_last c.args.s.now c.loop-count.out c.loop-count.count c.in_ok-read.read.value c.in_ok-read.read.next (omega arith)
    (last_number (length c.args.out.now) c.loop-count.count (take c.loop-count.count c.loop-count.out) (drop c.loop-count.at c.args.s.now) c.loop-count.invariant (omega arith) c.in_ok-read.read.value _
    (sym c.read_number.ensures ∙ ap (number_in c.args.s.now) c.in_ok-read.was) (sym c.is_next.ensures ∙ c.if-not-is_next.true))

pub overflow_add-at : goal.overflow_add-at
overflow_add-at c =
    omega (arith, next_there _ c.args.s.now c.in_ok-read.read.next (sym c.is_next.ensures ∙ c.if-not-is_next.false))

pub loop-count-preserved : goal.loop-count-preserved
loop-count-preserved c =
    rw (one_set c.loop-count.out c.loop-count.count c.in_ok-read.read.value (omega arith), ← behind c.args.s.now c.in_ok-read.read.next)
    (next_number (length c.args.out.now) c.loop-count.count (take c.loop-count.count c.loop-count.out) (drop c.loop-count.at c.args.s.now) c.loop-count.invariant (omega arith) c.in_ok-read.read.value _
    (sym c.read_number.ensures ∙ ap (number_in c.args.s.now) c.in_ok-read.was) (sym c.is_next.ensures ∙ c.if-not-is_next.false))

pub returns : goal.returns
returns c =
    lists_none c.args.s.now c.loop-count.out
    (full (length c.args.out.now) c.loop-count.count (take c.loop-count.count c.loop-count.out) (drop c.loop-count.at c.args.s.now) c.loop-count.invariant (omega arith))
