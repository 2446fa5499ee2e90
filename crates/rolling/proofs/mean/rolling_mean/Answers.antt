-- By the test of the count: the two totals give the mean.
use Prim.Native.Nat.{◌≤◌, ◌<◌}
use native.Mathlib.Omega.{arith}
use borrow.Author.Tests.{lt-ltb, le-ltb}
use mir.Syntax.{w16, w32}
use mir.ValLaws.{to_z-of_z}
use Rattle.rolling.proofs.Totals.{figure_by_totals, totals_small, sum_small}
use Rattle.rolling.proofs.mean.rolling_mean.Goals as goal

pub returns-then-t-lt-ENOUGH : goal.returns-then-t-lt-ENOUGH
returns-then-t-lt-ENOUGH c =
    let few : c.add_up-t.result.count < 18 = omega (arith, c.if-t-lt-ENOUGH.true) in
    rw (figure_by_totals _ c.requires c.add_up-t.ensures, lt-ltb _ _ few)

pub sum_of_means-requires : goal.sum_of_means-requires
sum_of_means-requires c = totals_small c.args.codes.now c.requires c.add_up-t.ensures (omega (arith, c.told-codes))

pub nearest-requires : goal.nearest-requires
nearest-requires c =
    let small = totals_small c.args.codes.now c.requires c.add_up-t.ensures (omega (arith, c.told-codes)) in
    rw (to_z-of_z w32 c.sum_of_means.result (record { sfits = c.sum_of_means.type_inv }), c.sum_of_means.ensures) (omega arith, omega arith, sum_small _ _ small.1)

pub returns : goal.returns
returns c =
    let enough : 18 ≤ c.add_up-t.result.count = omega (arith, c.if-t-lt-ENOUGH.false) in
    rw (to_z-of_z w16 c.nearest.result (record { sfits = c.nearest.type_inv }), figure_by_totals _ c.requires c.add_up-t.ensures, le-ltb _ _ enough)
    (rw (to_z-of_z w32 c.sum_of_means.result (record { sfits = c.sum_of_means.type_inv }), c.sum_of_means.ensures) at c.nearest.ensures)
