use Rattle.std.proofs.Common.{rules, tests}
use Rattle.std.proofs.lemmas.Iterator.{YieldsList-from_slice}
use Rattle.std.proofs.lemmas.Iterator.Search.{all_from_yields_List}
use Rattle.code.specs.Lists.{is_below}
use Rattle.sheet.proofs.job.symbols_below.Goals as goal

pub returns : goal.returns
returns c = all_from_yields_List (is_below c.args.q) _ _ c.all.result c.all.ensures.ran (YieldsList-from_slice c.args.message.now cc) (λ x b q k. search (rules, tests))
