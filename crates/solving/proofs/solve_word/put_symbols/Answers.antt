-- What was copied is the whole part that was lent.
use mathlib.Core.Path.{sym, ◌∙◌, ap}
use mathlib.Core.List.{◌++◌}
use native.Mathlib.Omega.{arith}
use lib.ListN.{drop}
use lib.Seq.{length-take-le, take_all}
use Rattle.solving.proofs.solve_word.put_symbols.Goals as goal

pub returns : goal.returns
returns c =
    ap (λ a. a ++ drop c.args.count c.args.f.now)
    (sym (take_all c.args.count _ (omega (arith, c.copy.auto.out, length-take-le c.args.count c.args.f.now c.requires.1))) ∙ c.copy.ensures)
