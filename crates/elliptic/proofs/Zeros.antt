-- How many zeros functions have. THEOREM Z: a function has no more zeros than its weight. THEOREM K: functions of weights s and s + 1 have no s zeros in common.
use Prim.Native.Nat.{ℕ, suc, ◌+◌, ◌≤◌}
use mathlib.Core.Path.{◌≡◌, ◌∙◌, ap}
use mathlib.Core.List.{List}
use native.Mathlib.Omega.{arith}
use lib.ListN.{length}
use Rattle.field.specs.Field.{Arithmetic, Field}
use Rattle.field.proofs.Laws.{·_zero}
use Rattle.elliptic.specs.Functions.{weight}
use Rattle.elliptic.specs.Curve.{Curve, Point}
use Rattle.elliptic.proofs.Points.{Points, all_zip}
use Rattle.elliptic.proofs.Descent.{Through, descent}
use Rattle.elliptic.proofs.Products.{times_y, evaluate_times_y, lead_times_y}

module _ {F : Arithmetic} (K : Field F) {C : Curve} {J : List Point} (p : Points F C J) where
  infixl 70 ◌·◌
  open F use {◌·◌}

  -- THEOREM Z. Theorem C for f and Y·f, which weighs 3 more
  pub zeros : {n : ℕ} {f : List ℕ} → Through F J n f → length J ≤ weight n
  zeros {n} {f} t =
      let (m, e, v) = lead_times_y K C t.lead in
      let second : Through F J m (times_y F C f) =
      record {
        l = t.l;
        nonzero = t.nonzero;
        lead = v;
        zeros = all_zip (λ P o z. evaluate_times_y K C P o f ∙ ap (λ v. P.y · v) z ∙ ·_zero K P.y) p.on t.zeros;
      } in
      omega (arith, descent K C (record { points = p; first = t; second = second; k = weight n + 1; odd = omega arith }), e)

  -- THEOREM K
  pub no_common : {n m : ℕ} {f h : List ℕ} → Through F J n f → Through F J m h → weight n ≡ length J → weight m ≡ suc (length J) → ⊥
  no_common t s e g = omega (arith, descent K C (record { points = p; first = t; second = s; k = length J; odd = omega arith }), e, g)
