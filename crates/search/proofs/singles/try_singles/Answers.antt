use Prim.Native.Nat.{◌-◌}
use mathlib.Core.Path.{sym, ◌∙◌, ap}
use Rattle.code.specs.Shown.{shown}
use Rattle.codewords.specs.Code.{q}
use Rattle.patterns.specs.Patterns.{none}
use Rattle.search.proofs.Loops.{going_down, going_over, runs_over, length_values, singles_start}
use Rattle.search.proofs.singles.try_singles.Goals.{then-rest-gt0, else-rest-gt0}
use Rattle.search.proofs.singles.try_singles.Goals as goal

pub loop-i-init : goal.loop-i-init
loop-i-init c = singles_start _ _ _ c.args.left c.requires.prepared.1

pub loop-i-preserved : goal.loop-i-preserved
loop-i-preserved c =
    let code = shown c.args.code.now in
    let count = length_values (q code) (none code.k) (c.loop-i.i - 1) ∙ ap (λ z. z - 1) (sym c.size-some.ensures) in
    going_down c.loop-i.i c.loop-i-test.true (c.saturating_sub-rest.ensures ∙ ap (λ n. c.loop-i.rest - n) (sym count))
    (elim c.if-rest-gt0.branch [
      | then-rest-gt0 w ↦ rw w.best-is w.try_single-best.ensures
      | else-rest-gt0 w ↦ rw w.best-is (runs_over c.loop-i.rest _ w.if-rest-gt0.false c.loop-i.invariant.is_try)
    ]) c.loop-i.invariant

pub returns : goal.returns
returns c = going_over c.loop-i.i c.loop-i-test.false c.loop-i.invariant
