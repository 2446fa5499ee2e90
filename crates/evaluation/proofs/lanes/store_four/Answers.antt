-- Each lane's two parts are stored, and those before are kept.
use Rattle.evaluation.proofs.Passing.{stored_four}
use Rattle.evaluation.proofs.lanes.store_four.Goals as goal

pub returns : goal.returns
returns c =
    stored_four c.store.ensures c.store-2.ensures c.store-3.ensures c.store-4.ensures
