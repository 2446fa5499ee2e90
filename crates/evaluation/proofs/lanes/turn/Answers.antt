-- One turn of Horner's rule.
use mathlib.Core.Path.{refl}
use Rattle.engine.proofs.Laws.{logged, by_logged}
use Rattle.evaluation.proofs.Passing.{passed_more}
use Rattle.evaluation.proofs.lanes.turn.Goals as goal

pub product_by_log-requires : goal.product_by_log-requires
product_by_log-requires c =
    logged c.args.field.now.tables.field c.requires.i_in_bounds.1.byte c.requires.i_in_bounds.1.is_log

pub returns : goal.returns
returns c =
    let prod = by_logged c.args.field.now.tables.field c.requires.i_in_bounds.1.byte c.requires.i_in_bounds.1.is_log _ c.product_by_log.ensures in
    record { byte = c.requires.i_in_bounds.1.byte; is_x = refl; is_log = c.requires.i_in_bounds.1.is_log; passed = passed_more c.args.field.now.number c.args.f.now _ _ _ c.args.i _ c.requires.i_in_bounds.0 prod c.requires.i_in_bounds.1.passed }
