-- The sums stand in the first bytes of the working space, which are cleared at the end.
use mathlib.Core.Path.{◌∙◌, ap}
use mathlib.Core.List.{◌++◌}
use native.Mathlib.Omega.{arith}
use lib.ListN.{length, replicate}
use Rattle.solving.specs.Tests.{room}
use Rattle.matrix.proofs.Marks.{written_drop}
use Rattle.matrix.proofs.write.write_rows.Goals as goal

pub returns : goal.returns
returns c =
    let (w, size) = c.requires.written in (
      c.fill_rows.ensures,
      c.clear_room.ensures
          ∙ ap (λ z. replicate room 0 ++ z) (written_drop (length c.args.px.now) room c.args.work.now (omega (arith, w.most, size)) (omega (arith, w.most)) c.fill_rows.new.sums c.fill_rows.auto.sums),
    )
