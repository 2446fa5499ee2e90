-- The trace is added to Y.
use Rattle.field.proofs.Sum.{⊕_assoc}
use Rattle.elliptic.specs.Curve.{opposite}
use Rattle.curve.proofs.opposite.Goals as goal

pub returns : goal.returns
unfolding opposite
returns c =
    rw (c.add.ensures, c.trace-t.ensures, ← ⊕_assoc c.args.p.y _ c.args.c.g3)
