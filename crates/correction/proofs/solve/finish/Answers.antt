-- The sum with the multiple that the quotient is.
use mathlib.Core.Path.{◌∙◌, ap}
use Rattle.field.specs.Galois.{galois}
use Rattle.elliptic.specs.Pair.{add_scaled}
use Rattle.correction.specs.Runs.{finished}
use Rattle.correction.proofs.solve.finish.Goals as goal

pub returns : goal.returns
returns c =
    c.add_scaled.ensures ∙ ap (λ t. add_scaled (galois c.args.field.now.number) t c.args.l.now c.args.f.now) c.quotient-c.ensures
    ∙ ap (finished c.args.field.now.number c.args.r.now c.args.l.now c.args.f.now) c.last_index-j.ensures.1
