-- Over 256 elements v = U² + U has trace 0, so the two parts of v have the same trace: that of the one stands in a computed table, that of the other
-- is affine in the digits. They agree at few places, so a curve that is not singular has points over few X.
use Prim.Native.Nat.{ℕ, zero, suc, ◌+◌, ◌/◌, ◌%◌, ◌≤◌, ◌<◌}
use mathlib.Core.Path.{◌≡◌, refl, sym, ◌∙◌, ap, ap₂, subst}
use mathlib.Core.Bool.{Bool, true, false, false≢true}
use mathlib.Core.List.Memᴰ.{of_map as map-in}
use mathlib.Core.List.{List, map, Memᴰ as In}
use native.Mathlib.Decide.{ℕ_discrete}
use native.Mathlib.Omega.{arith}
use lib.Dec.{leb}
use lib.ListN.{length, length-map}
use borrow.Author.Tests.{leb-true, le-leb, eq-eqb}
use Rattle.basics.specs.Lists.{filter}
use Rattle.field.specs.Sum.{◌⊕◌}
use Rattle.field.specs.Field.{Arithmetic, Field, pow}
use Rattle.field.proofs.Laws.{ring, pow_add, pow_lt, inv_cancel, ·_comm, ·_zero, zero_·}
use Rattle.elliptic.specs.declared.Curve.{Curve}
use Rattle.elliptic.specs.declared.Point.{Point}
use Rattle.elliptic.specs.Curve.{coefficients_below, singular}
use Rattle.elliptic.proofs.Points.{On}
use Rattle.codewords.specs.Codewords.{below}
use Rattle.codewords.proofs.Tests.{filter_in}
use Rattle.codewords.proofs.Counting.{unique_filter, unique_map}
use Rattle.codewords.proofs.Listing.{below_in, unique_below}
use Rattle.point_count.specs.Bound.{most}
use Rattle.point_count.proofs.Singular.{g3_lt, singular_flat}
use Rattle.point_count.proofs.Walsh.{◌⊻◌, pick, once, from, Affine, within}
use Rattle.point_count.proofs.Trace.{few, at_inverse, cube, Traced}
use Rattle.point_count.proofs.Forms.{nonzero_factor, nonzero_product, Solvable, divisor, scaled, flat_slope, flat_rest}
use Rattle.point_count.proofs.Forms.{mirror, mirror_lt, mirror_injective, mirror_zero, mirror_not, mirrored, slope, second}

-- a test that passes at the X of each point, and at no more than half as many numbers as a curve may have points
pub record Over (F : Arithmetic) (C : Curve) : Type 0 where
  pub test : ℕ → Bool
  pub passes : (P : Point) → On F C P → test P.x ≡ true
  pub seldom : length (filter test (below F.q)) ≤ most / 2

no_sum : (a b : Bool) → a ⊻ b ≡ false → a ≡ b
no_sum false b e = sym e
no_sum true true e = refl
no_sum true false e = absurd (false≢true (sym e))

counts_once : (a b : Bool) → a ≡ b → 1 ≤ pick b (once a)
counts_once false false e = omega arith
counts_once false true e = absurd (false≢true e)
counts_once true false e = absurd (false≢true (sym e))
counts_once true true e = omega arith

counts_zero : (b : Bool) → 1 ≤ pick b (1, 1)
counts_zero false = omega arith
counts_zero true = omega arith

module _ {F : Arithmetic} (K : Field F) {g : ℕ} {trace : ℕ → Bool} (R : Traced F g trace) where
  infixl 70 ◌·◌
  open F use {q, ◌·◌, inv}
  open K use {mul_lt, inv_lt, mul_inv}

  -- where v + w is U² + U, both have the same trace
  agree : (v w : ℕ) → Solvable K (v ⊕ w) → trace v ≡ trace w
  agree v w (u, l, e) = no_sum (trace v) (trace w) (sym (R.add v w) ∙ ap trace (sym e) ∙ R.still u l)

  affine : (c d : ℕ) → Affine (λ s. trace (c · s ⊕ d))
  affine c d a b =
      let apart : c · (a ⊕ b) ⊕ d ≡ (c · a ⊕ d) ⊕ ((c · b ⊕ d) ⊕ (c · 0 ⊕ d)) = simp ring in
      ap trace apart ∙ R.add _ _ ∙ ap (λ t. trace (c · a ⊕ d) ⊻ t) (R.add _ _)

  module _ (C : Curve) where
    -- f takes the X of each point to a place at which a tested table counts
    over : (f : ℕ → ℕ) (t : ℕ → ℕ × ℕ) (c d : ℕ) → few t (from 0 256) ≡ true → ((x : ℕ) → f x < q)
        → ((x y : ℕ) → x < q → y < q → f x ≡ f y → x ≡ y) → ((P : Point) → On F C P → 1 ≤ pick (trace (c · f P.x ⊕ d)) (t (f P.x))) → Over F C
    over f t c d h lt injective counts =
        record {
          test = test;
          passes = λ P on. le-leb 1 _ (counts P on);
          seldom =
              rw (← (length-map kept f))
              (within (λ s. trace (c · s ⊕ d)) t (most / 2) 8 256 h (affine c d)
              (unique_map f (unique_filter test (unique_below q)) (λ x y i j. injective x y (kept_lt i) (kept_lt j))) (λ a i. at_image a i));
        }
      where
        test : ℕ → Bool
        test x = leb 1 (pick (trace (c · f x ⊕ d)) (t (f x)))

        kept : List ℕ
        kept = filter test (below q)

        kept_lt : {x : ℕ} → In x kept → x < q
        kept_lt i = below_in q (filter_in test (below q) i).0

        at_image : (a : ℕ) → In a (map f kept) → (a < 256) × (1 ≤ pick (trace (c · a ⊕ d)) (t a))
        at_image a i =
            let (x, j, e) = map-in f kept i in
            subst (λ b. (b < 256) × (1 ≤ pick (trace (c · b ⊕ d)) (t b))) e (omega (arith, lt x, R.full), leb-true 1 _ (filter_in test (below q) j).1)

    module _ (below : coefficients_below q C ≡ true) where
      open C use {g1, g3}

      -- f X is 1/(g1·X + g3) but for a factor
      steep : (g1 ≡ 0 → ⊥) → Over F C
      steep n = over f t c d R.inverses (mirror_lt K C below z n) (mirror_injective K C below z n) (λ P on. by P on (ℕ_discrete (divisor K C below P.x) 0))
        where
          z : inv 0 ≡ 0
          z = R.inv_zero

          f : ℕ → ℕ
          f = mirror K C below z n

          t : ℕ → ℕ × ℕ
          t = at_inverse (λ s. trace (inv s))

          c : ℕ
          c = slope K C below z n

          d : ℕ
          d = second K C below z n

          t_not : (s : ℕ) → (s ≡ 0 → ⊥) → t s ≡ once (trace (inv s))
          t_not zero n = absurd (n refl)
          t_not (suc s) n = refl

          by : (P : Point) → On F C P → Dec (divisor K C below P.x ≡ 0) → 1 ≤ pick (trace (c · f P.x ⊕ d)) (t (f P.x))
          by P on (yes e) = subst (λ s. 1 ≤ pick (trace (c · s ⊕ d)) (t s)) (sym (mirror_zero K C below z n P.x e)) (counts_zero (trace (c · 0 ⊕ d)))
          by P on (no m) =
              let s = f P.x in
              subst (λ w. 1 ≤ pick (trace (c · s ⊕ d)) w) (sym (t_not s (mirror_not K C below z n P.x m)))
              (counts_once (trace (inv s)) (trace (c · s ⊕ d)) (agree _ _ (mirrored K C below z n P.x m P.y on.x_lt on.eqn)))

      -- 1/g3² is a cube times r, the generator to the power 0, 1 or 2
      flat : g1 ≡ 0 → (g3 ≡ 0 → ⊥) → Over F C
      flat e n =
          over (λ x. s · x) (λ x. once (trace (r · cube ◌·◌ x))) (flat_slope K C below e n r s s_lt s_not square) (flat_rest K C below e n r s s_lt s_not square)
          (R.cubes j (omega arith)) (mul_lt s) (λ x y hx hy i. sym (inv_cancel K s x s_lt s_not hx) ∙ ap (λ t. inv s · t) i ∙ inv_cancel K s y s_lt s_not hy)
          (λ P on. counts_once _ _ (agree _ _ (scaled K C below e n r s s_lt s_not square P.x P.y on.x_lt on.eqn)))
        where
          w_not : inv g3 ≡ 0 → ⊥
          w_not = nonzero_factor K (inv g3) g3 (·_comm K (inv g3) g3 ∙ mul_inv g3 (g3_lt K C below) n)

          i : ℕ
          i = (R.power (inv g3) (inv_lt g3) w_not).0

          j : ℕ
          j = (i + i) % 3

          k : ℕ
          k = (i + i) / 3

          r : ℕ
          r = pow ◌·◌ g j

          s : ℕ
          s = pow ◌·◌ g k

          s_lt : s < q
          s_lt = pow_lt K g k

          square : inv g3 · inv g3 ≡ r · (s · (s · s))
          square =
              let p = sym (R.power (inv g3) (inv_lt g3) w_not).1 in
              let sum : i + i ≡ j + (k + (k + k)) = omega arith in
              ap₂ ◌·◌ p p ∙ sym (pow_add K g i i) ∙ ap (pow ◌·◌ g) sum ∙ pow_add K g j (k + (k + k))
              ∙ ap (λ t. r · t) (pow_add K g k (k + k) ∙ ap (λ t. s · t) (pow_add K g k k))

          s_not : s ≡ 0 → ⊥
          s_not z =
              nonzero_product K (inv g3) (inv g3) (inv_lt g3) (inv_lt g3) w_not w_not
              (square ∙ ap (λ t. r · (t · (s · s))) z ∙ ap (λ t. r · t) (zero_· K (s · s)) ∙ ·_zero K r)

      -- THEOREM: a curve that is not singular has points over few X
      pub few_over : singular F C ≡ false → Over F C
      few_over regular = by (ℕ_discrete g1 0) (ℕ_discrete g3 0)
        where
          by : Dec (g1 ≡ 0) → Dec (g3 ≡ 0) → Over F C
          by (no n) d = steep n
          by (yes e) (no n) = flat e n
          by (yes e) (yes z) = absurd (false≢true (sym regular ∙ singular_flat K C below e ∙ eq-eqb g3 0 z))
