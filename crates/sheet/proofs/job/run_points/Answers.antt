-- Points, and then the job over those that it listed.
use Prim.Native.Nat.{ℕ}
use mathlib.Core.Path.{sym}
use Rattle.std.proofs.lemmas.List.{length-replicate}
use Rattle.sheet.proofs.Few.{part}
use Rattle.sheet.proofs.Stops.{exit_ran}
use Rattle.sheet.proofs.Jobs.{points_refused, few_points, points_x, points_y}
use Rattle.sheet.proofs.job.run_points.Goals as goal

pub returns-in_err-n : goal.returns-in_err-n
returns-in_err-n c = exit_ran _ c.from_residual.ensures.1 (points_refused c.args.p _ _ (length-replicate {A = ℕ} 288 0) (length-replicate {A = ℕ} 288 0) c.in_err-n.ensures)

-- the points that were counted fit both buffers
pub slice_bounds-xs-end : goal.slice_bounds-xs-end
slice_bounds-xs-end c = (part _ _ (few_points c.args.p c.in_ok-n.ensures) c.points.auto.xs).within

pub slice_bounds-run_over-end : goal.slice_bounds-run_over-end
slice_bounds-run_over-end c = sym (part _ _ (few_points c.args.p c.in_ok-n.ensures) c.points.auto.xs).part

pub slice_bounds-ys-end : goal.slice_bounds-ys-end
slice_bounds-ys-end c = (part _ _ (few_points c.args.p c.in_ok-n.ensures) c.points.auto.ys).within

pub slice_bounds-run_over-end-2 : goal.slice_bounds-run_over-end-2
slice_bounds-run_over-end-2 c = sym (part _ _ (few_points c.args.p c.in_ok-n.ensures) c.points.auto.ys).part

pub returns : goal.returns
returns c = rw (points_x c.args.p c.in_ok-n.ensures, points_y c.args.p c.in_ok-n.ensures) at c.run_over.ensures
