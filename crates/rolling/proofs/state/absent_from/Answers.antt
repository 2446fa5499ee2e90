use Rattle.std.proofs.Common.{rules, tests}
use Rattle.std.proofs.lemmas.Iterator.{YieldsList-from_slice}
use Rattle.std.proofs.lemmas.Iterator.Adapters.{YieldsList-from_skip}
use Rattle.std.proofs.lemmas.Iterator.Search.{all_from_yields_List}
use Rattle.rolling.specs.State.{absent_code}
use Rattle.rolling.proofs.state.absent_from.Goals as goal

pub returns : goal.returns
returns c =
    all_from_yields_List absent_code _ _ c.all.result c.all.ensures.ran (YieldsList-from_skip c.args.from (YieldsList-from_slice c.args.codes.now cc) cc)
    (λ x b q k. search (rules, tests))
