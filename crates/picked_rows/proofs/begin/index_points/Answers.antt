-- The marks stand in the second array of the working space, so that the first is as it was.
use mathlib.Core.Path.{sym, ◌∙◌}
use Prim.Native.Nat.{◌+◌, ◌-◌}
use native.Mathlib.Omega.{arith}
use lib.ListN.{length, take, drop}
use Rattle.matrix.proofs.Marks.{marked}
use Rattle.picked_rows.proofs.Stored.{second_lent, first_kept, second_spared, behind_as}
use Rattle.picked_rows.proofs.begin.index_points.Goals as goal

pub index_rest-requires : goal.index_rest-requires
index_rest-requires c =
    let n = length c.args.a.now in
    let marks = take (n + n - n) (drop n c.args.work.now) in
    let size = second_lent n c.args.work.now (omega (arith, c.requires.4)) in
    (rw size c.requires.0, marked c.args.k n c.args.places.now marks size c.requires.5 c.requires.0 c.requires.1 c.requires.2, sym size, c.requires.3 ∙ sym size)

pub returns : goal.returns
returns c =
    let n = length c.args.a.now in
    let work = c.args.work.now in
    let marks = take (n + n - n) (drop n work) in
    let size = second_lent n work (omega (arith, c.requires.4)) in
    let back = c.index_rest.auto.marks ∙ size in (
      behind_as c.args.k c.args.places.now marks c.args.a.now c.args.a.now c.args.b.now c.index_rest.new.a c.index_rest.new.b size c.index_rest.ensures,
      first_kept n work (omega (arith, c.requires.4)) c.index_rest.new.marks back,
      second_spared n work c.index_rest.new.marks (omega (arith, c.requires.4)) back,
    )
