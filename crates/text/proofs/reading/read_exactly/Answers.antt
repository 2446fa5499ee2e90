-- A line, and then whether it has as many numbers.
use Prim.Native.Nat.{ℕ, ◌≤◌}
use mathlib.Core.List.{List}
use mathlib.Core.Path.{sym, ◌∙◌, ap}
use native.Mathlib.Omega.{arith}
use lib.ListN.{length, drop}
use lib.Seq.{length-take-le, take_all}
use Rattle.text.specs.Reading.{got}
use Rattle.text.specs.Stages.{list_in}
use Rattle.text.proofs.Lines.{no_line, other_count, right_count_lem}
use Rattle.text.proofs.reading.read_exactly.Goals as goal

pub returns-in_err-listed : goal.returns-in_err-listed
returns-in_err-listed c =
    rw c.from_residual.ensures
    (no_line c.args.key.now (length c.args.out.now) (drop c.args.start c.args.s.now) (sym c.read_line.ensures.reads ∙ ap (list_in c.args.s.now _) c.in_err-listed.was))

pub returns-then-listed-out : goal.returns-then-listed-out
returns-then-listed-out c =
    let is_line = sym c.read_line.ensures.reads ∙ ap (list_in c.args.s.now c.read_line.new.out) c.in_ok-listed.was in
    let few : c.in_ok-listed.listed.count ≤ length c.read_line.new.out = rw c.in_ok-listed.was at c.read_line.ensures.within in
    other_count c.args.key.now (length c.args.out.now) (drop c.args.start c.args.s.now) _ _ is_line
    (λ e. c.if-listed-out.true (omega (arith, e, few, length-take-le c.in_ok-listed.listed.count c.read_line.new.out few, c.read_line.auto.out)))

pub returns : goal.returns
returns c =
    let is_line = sym c.read_line.ensures.reads ∙ ap (list_in c.args.s.now c.read_line.new.out) c.in_ok-listed.was in
    let few : c.in_ok-listed.listed.count ≤ length c.read_line.new.out = rw c.in_ok-listed.was at c.read_line.ensures.within in
    ap (λ (l : List ℕ). got l (drop c.in_ok-listed.listed.next c.args.s.now)) (sym (take_all c.in_ok-listed.listed.count c.read_line.new.out (omega (arith, c.if-listed-out.false))))
    ∙ right_count_lem c.args.key.now (length c.args.out.now) (drop c.args.start c.args.s.now) _ _ is_line
    (omega (arith, c.if-listed-out.false, length-take-le c.in_ok-listed.listed.count c.read_line.new.out few, c.read_line.auto.out))
