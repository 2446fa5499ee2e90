-- The parts of the arrays that there is need for.
use Prim.Native.Nat.{◌+◌, ◌≤◌}
use mathlib.Core.Path.{sym}
use native.Mathlib.Omega.{arith}
use lib.ListN.{length}
use lib.Seq.{length-take-le}
use Rattle.codewords.proofs.Accepted.{accepted_done}
use Rattle.correction.proofs.run.correct_run.Goals as goal

pub slice_bounds-a-end : goal.slice_bounds-a-end
slice_bounds-a-end c = omega (arith, (accepted_done _ c.args.code.now.accepted).n_most)

pub slice_bounds-correct_in-end : goal.slice_bounds-correct_in-end
slice_bounds-correct_in-end c = sym (length-take-le _ _ (omega (arith, (accepted_done _ c.args.code.now.accepted).n_most)))

pub slice_bounds-b-end : goal.slice_bounds-b-end
slice_bounds-b-end c = omega (arith, (accepted_done _ c.args.code.now.accepted).n_most)

pub slice_bounds-correct_in-end-2 : goal.slice_bounds-correct_in-end-2
slice_bounds-correct_in-end-2 c = sym (length-take-le _ _ (omega (arith, (accepted_done _ c.args.code.now.accepted).n_most)))

pub slice_bounds-c-end : goal.slice_bounds-c-end
slice_bounds-c-end c = omega (arith, (accepted_done _ c.args.code.now.accepted).n_most)

pub slice_bounds-correct_in-end-3 : goal.slice_bounds-correct_in-end-3
slice_bounds-correct_in-end-3 c = sym (length-take-le _ _ (omega (arith, (accepted_done _ c.args.code.now.accepted).n_most)))

pub slice_bounds-d-end : goal.slice_bounds-d-end
slice_bounds-d-end c = omega (arith, (accepted_done _ c.args.code.now.accepted).n_most)

pub slice_bounds-correct_in-end-4 : goal.slice_bounds-correct_in-end-4
slice_bounds-correct_in-end-4 c = sym (length-take-le _ _ (omega (arith, (accepted_done _ c.args.code.now.accepted).n_most)))

pub correct_in-requires : goal.correct_in-requires
correct_in-requires c =
    let long : 74 + length c.args.code.now.xs.now ≤ 362 = omega (arith, (accepted_done _ c.args.code.now.accepted).n_most) in
    record { r_len = c.requires.r_len; four_long = record { a_long = length-take-le _ _ long; b_long = length-take-le _ _ long; c_long = length-take-le _ _ long; d_long = length-take-le _ _ long } }
