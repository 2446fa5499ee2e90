-- Zeros bring the function to the length of the other where that is longer.
use native.Mathlib.Omega.{arith}
use lib.ListN.{length, take}
use Rattle.basics.proofs.Lists.{lent}
use Rattle.field.specs.Galois.{galois}
use Rattle.elliptic.specs.Pair.{add_scaled}
use Rattle.engine.proofs.Laws.{gained}
use Rattle.engine.proofs.pair.gain.Goals as goal

pub returns-then-n-k : goal.returns-then-n-k
returns-then-n-k c =
    lent c.extend.new.f _ (length c.args.h.now) (add_scaled (galois c.args.field.now.number) c.args.t c.args.h.now (take c.args.n c.args.f.now)) (omega (arith, c.extend.auto.f)) c.add_scaled.auto.f
    (gained c.args.field.now.number c.args.t c.args.n c.args.h.now c.args.f.now c.extend.new.f c.requires.n_in_bounds.0 (omega arith) c.extend.ensures c.add_scaled.ensures)
