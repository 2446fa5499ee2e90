-- Each call finds in the working space what the ones before it left there.
use mathlib.Core.Path.{◌∙◌}
use lib.ListN.{length}
use Rattle.picked_rows.proofs.Stored.{then_spared}
use Rattle.picked_rows.proofs.Difference.{given_works, put_difference}
use Rattle.picked_rows.proofs.base.prepare.Goals as goal

pub begin-requires : goal.begin-requires
begin-requires c = record { works = (given_works c.requires.given.0, c.requires.given.1, c.requires.given.2) }

pub returns : goal.returns
returns c =
    let n = length c.args.code.now.xs.now in
    let size = c.find_difference.auto.difference ∙ c.store_sums.auto.sums ∙ c.begin.auto.b ∙ c.requires.given.1 in (
      put_difference c.requires.given.0 size c.store.auto.work c.store_sums.ensures.0 c.find_difference.ensures c.store.ensures,
      then_spared n _ c.args.work.now c.store_sums.new.work c.store.new.work size (c.store_sums.ensures.1 ∙ c.begin.ensures.1) c.store.ensures.spared,
    )
