-- What is stored are the two parts over the lane's coordinate.
use Rattle.engine.proofs.Laws.{logged, by_logged}
use Rattle.evaluation.proofs.Passing.{stored}
use Rattle.evaluation.proofs.lanes.store.Goals as goal

pub product_by_log-requires : goal.product_by_log-requires
product_by_log-requires c =
    logged c.args.field.now.tables.field c.requires.f_nonzero.1.byte c.requires.f_nonzero.1.is_log

pub returns : goal.returns
returns c =
    let prod = by_logged c.args.field.now.tables.field c.requires.f_nonzero.1.byte c.requires.f_nonzero.1.is_log _ c.product_by_log.ensures in
    rw c.from-at.ensures (stored c.args.field.now.number c.args.f.now c.args.a.now c.args.b.now _ _ _ _ c.requires.f_nonzero.2 c.requires.f_nonzero.1.byte c.requires.f_nonzero.0 prod c.requires.f_nonzero.1.passed)
