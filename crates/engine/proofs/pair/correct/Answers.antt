-- The multiple is what is missing over the value of g.
use lib.ListN.{take}
use Rattle.basics.proofs.Lists.{holds_as}
use Rattle.field.specs.Galois.{galois}
use Rattle.elliptic.specs.Pair.{add_scaled}
use Rattle.engine.proofs.Laws.{corrected_as}
use Rattle.engine.proofs.pair.correct.Goals as goal

pub returns : goal.returns
returns c =
    let f = take c.args.n c.args.f.now in
    holds_as {l = add_scaled (galois c.args.field.now.number) c.quotient-t.result c.args.g.now f} c.gain.ensures (corrected_as c.args.field.now.number c.args.p c.args.v c.args.g.now f c.value.ensures c.requires.n_in_bounds.2 c.quotient-t.ensures)
