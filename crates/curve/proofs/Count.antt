-- Points counts no more points than its buffers hold.
use Prim.Native.Nat.{ℕ, ◌≤◌}
use mathlib.Core.List.{List}
use borrow.Author.Tests.{not-true}
use lib.ListN.{length}
use Rattle.basics.specs.Outcome.{answer, counts}
use Rattle.basics.proofs.Outcomes.{counts_check, counts_if, counts_counted}
use Rattle.field.specs.Galois.{galois}
use Rattle.field.proofs.Galois.{is_field_lem}
use Rattle.elliptic.specs.declared.Curve.{Curve}
use Rattle.elliptic.specs.Curve.{affine_points}
use Rattle.point_count.proofs.Bound.{bound}
use Rattle.curve.specs.Points.{room, points_outcome}

pub points_counts : (m : ℕ) (C : Curve) (xs ys : List ℕ) → counts (answer (points_outcome m C xs ys)) ≤ room
unfolding points_outcome
points_counts m C xs ys =
    counts_if room _ _ _ (λ f. counts_if room _ _ _ (λ b. counts_if room _ _ _ (λ s. counts_check room _ _ _
    (counts_counted room (length (affine_points (galois m) C)) _ (bound m C (is_field_lem m f) b (not-true _ s))))))
