-- The sum with the multiple that the quotient is.
use mathlib.Core.Path.{◌∙◌, ap}
use Rattle.field.specs.Galois.{galois}
use Rattle.elliptic.specs.Pair.{add_scaled}
use Rattle.solving.proofs.solve_word.correct.Goals as goal

pub returns : goal.returns
returns c =
    c.add_scaled.ensures ∙ ap (λ t. add_scaled (galois c.args.field.now.number) t c.args.l.now c.args.f.now) c.quotient-e.ensures
