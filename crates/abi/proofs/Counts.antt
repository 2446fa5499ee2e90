-- No operation that counts counts more than 288, so that every answer fits the number that a C export returns.
use Prim.Native.Nat.{ℕ, ◌≤◌}
use mathlib.Core.List.{List}
use native.Mathlib.Omega.{arith}
use borrow.Author.Tests.{eqb-true}
use lib.ListN.{length}
use Rattle.basics.specs.Outcome.{answer, counts}
use Rattle.basics.proofs.Outcomes.{counts_check, counts_if, counts_counted}
use Rattle.basics.proofs.Loops.{filter_table_few}
use Rattle.elliptic.specs.declared.Curve.{Curve}
use Rattle.codewords.specs.Code.{Code, n}
use Rattle.curve.specs.Points.{points_outcome}
use Rattle.curve.proofs.Count.{points_counts as points-few}
use Rattle.code.specs.Heard.{heard_at, heard_places, heard_tested, heard_outcome}
use Rattle.code.proofs.Opened.{counts_code}
use Rattle.correction.specs.Outcomes.{correct_outcome}
use Rattle.decoding.specs.Near.{distance, corrected}
use Rattle.decoding.proofs.Distance.{distance_most}

-- the largest count that the C interface takes
abbrev most : ℕ
most = 65535

pub points_counts : (m : ℕ) (C : Curve) (xs ys : List ℕ) → counts (answer (points_outcome m C xs ys)) ≤ most
points_counts m C xs ys = omega (arith, points-few m C xs ys)

module _ (code : Code) where
  pub heard_counts : (mask out : List ℕ) → counts (answer (heard_outcome code mask out)) ≤ most
  heard_counts mask out =
      counts_code code (heard_tested (n code) mask out) most
      (λ h.
      let few : length (heard_places mask (n code)) ≤ n code = filter_table_few (heard_at mask) _ (n code) in
      counts_check most _ _ _ (counts_check most _ _ _ (counts_check most _ _ _ (counts_counted most (length (heard_places mask (n code))) _ (omega arith)))))

  -- no more places are changed than there are
  pub correct_counts : (r out work : List ℕ) → counts (answer (correct_outcome code r out work)) ≤ most
  correct_counts r out work =
      counts_code code _ most
      (λ h. counts_if most _ _ _ (λ e. counts_check most _ _ _ (counts_check most _ _ _ (counts_check most _ _ _ (counts_check most _ _ _
      (counts_counted most (distance (corrected code r) r) _ (omega (arith, h, eqb-true (length r) (n code) e, distance_most (corrected code r) r))))))))
