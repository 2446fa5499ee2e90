-- A curve has at most two points over each X. Over 128 elements or fewer that is at most 256 points, and over 256 elements a curve that is not singular has
-- points over few X.
use Prim.Native.Nat.{ℕ, zero, suc, ◌*◌, ◌^◌, ◌≤◌, ◌<◌}
use mathlib.Core.Path.{◌≡◌, refl, sym, ◌∙◌, ap, ap₂, subst}
use mathlib.Core.Bool.{Bool, true, false, cond}
use mathlib.Core.List.Memᴰ.{head as here}
use mathlib.Core.List.Memᴰ.{of_map as map-in}
use mathlib.Core.List.Memᴰ.{tail as there}
use mathlib.Core.List.{List, [], ◌∷◌, map, Memᴰ as In}
use native.Mathlib.Decide.{ℕ_discrete}
use native.Mathlib.Omega.{arith}
use lib.ListN.{length, length-append}
use lib.Pow.{pow_mono}
use borrow.Author.Tests.{eqb-true}
use Rattle.basics.specs.Lists.{filter, table}
use Rattle.basics.proofs.Lists.{filter_append, length_filter, length_table, map_table}
use Rattle.field.specs.Field.{Arithmetic, Field}
use Rattle.field.specs.Galois.{width, size, galois}
use Rattle.field.proofs.Galois.{galois_field, row_facts}
use Rattle.elliptic.specs.declared.Curve.{Curve}
use Rattle.elliptic.specs.declared.Point.{Point}
use Rattle.elliptic.specs.Curve.{point, columns, on_curve, affine_points}
use Rattle.elliptic.proofs.Points.{On, All.cons}
use Rattle.elliptic.proofs.Conjugate.{conjugate_at}
use Rattle.codewords.specs.Codewords.{below}
use Rattle.codewords.proofs.Tests.{filter_in, not_both}
use Rattle.codewords.proofs.Counting.{Unique, Unique.add, unique_filter, unique_map, empty}
use Rattle.codewords.proofs.Listing.{below_in, unique_below}
use Rattle.point_count.specs.Bound.{most, Bound}
use Rattle.point_count.proofs.Over.{few_over}
use Rattle.point_count.proofs.Trace.{traced}

module _ {F : Arithmetic} (K : Field F) (C : Curve) where
  same_point_lem : (P Q : Point) → P.x ≡ Q.x → P.y ≡ Q.y → P ≡ Q
  same_point_lem P Q e f = ap₂ point e f

  -- of three points over one X two are the same
  few : (n : ℕ) (l : List Point) → Unique l → ((P : Point) → In P l → On F C P × (P.x ≡ n)) → length l ≤ 2
  few n [] u h = omega arith
  few n (P ∷ []) u h = omega arith
  few n (P ∷ Q ∷ []) u h = omega arith
  few n (P ∷ Q ∷ R ∷ l) (add (cons pq (cons pr a)) (add (cons qr b) u)) h =
      let (p, x) = h P (here refl) in
      let (o, y) = h Q (there (here refl)) in
      let (s, z) = h R (there (there (here refl))) in
      let e = conjugate_at K C p o (x ∙ sym y) (λ e. pq (same_point_lem P Q (x ∙ sym y) e)) in
      let f = conjugate_at K C p s (x ∙ sym z) (λ e. pr (same_point_lem P R (x ∙ sym z) e)) in
      absurd (qr (same_point_lem Q R (y ∙ sym z) (e ∙ sym f)))

  column : ℕ → List Point
  column n = filter (on_curve F C) (table (point n) F.q)

  column_map : (n : ℕ) → map (point n) (below F.q) ≡ table (point n) F.q
  column_map n = map_table (point n) (λ b. b) F.q

  in_column : (n : ℕ) → n < F.q → (P : Point) → In P (column n) → On F C P × (P.x ≡ n)
  unfolding column on_curve
  in_column n small P i =
      let (j, h) = filter_in (on_curve F C) (table (point n) F.q) i in
      let (y, k, e) = map-in (point n) (below F.q) (subst (λ l. In P l) (sym (column_map n)) j) in
      let x = ap (λ (P : Point). P.x) (sym e) in
      let below-y = below_in F.q k in
      (record { x_lt = omega (arith, x, small); y_lt = omega (arith, ap (λ (P : Point). P.y) e, below-y); eqn = eqb-true _ _ h }, x)

  column_few : (n : ℕ) → n < F.q → length (column n) ≤ 2
  unfolding column
  column_few n small =
      few n (column n)
      (unique_filter (on_curve F C) (subst Unique (column_map n) (unique_map (point n) (unique_below F.q) (λ a b i j e. ap (λ (P : Point). P.y) e))))
      (in_column n small)

  -- a test that passes at the X of each point
  module _ (test : ℕ → Bool) (passes : (P : Point) → On F C P → test P.x ≡ true) where
    column_over : (n : ℕ) → n < F.q → length (column n) ≤ 2 * length (filter test (n ∷ []))
    column_over n small = by (test n) refl
      where
        by : (b : Bool) → test n ≡ b → length (column n) ≤ 2 * length (cond b (n ∷ []) [])
        by true e = column_few n small
        by false e =
            let none = empty (column n) (λ P i. let (on, x) = in_column n small P i in not_both (passes P on) (ap test x ∙ e)) in
            omega (arith, ap length none)

    columns_over : (n : ℕ) → n ≤ F.q → length (filter (on_curve F C) (columns F.q n)) ≤ 2 * length (filter test (below n))
    unfolding column
    columns_over zero h = omega arith
    columns_over (suc n) h =
        omega (
          arith,
          ap length (filter_append (on_curve F C) (columns F.q n) (table (point n) F.q)),
          length-append (filter (on_curve F C) (columns F.q n)) (column n),
          ap length (filter_append test (below n) (n ∷ [])),
          length-append (filter test (below n)) (filter test (n ∷ [])),
          columns_over n (omega arith),
          column_over n h,
        )

-- THEOREM: no curve that is not singular has more affine points
pub bound : Bound
unfolding affine_points size
bound m C f below-q regular = by (ℕ_discrete (width m) 8)
  where
    every : ℕ → Bool
    every x = true

    by : Dec (width m ≡ 8) → length (affine_points (galois m) C) ≤ most
    by (yes e) =
        let o = few_over (galois_field f) (traced f (ap (λ w. 2 ^ w) e)) C below-q regular in
        omega (arith, columns_over (galois_field f) C o.test o.passes (size m) (omega arith), o.seldom)
    by (no n) =
        let small : size m ≤ 128 = pow_mono {j = 7} (omega (arith, (row_facts f).narrow)) in
        omega (
          arith,
          columns_over (galois_field f) C every (λ P on. refl) (size m) (omega arith),
          length_filter every (below (size m)),
          length_table (λ b. b) (size m),
          small,
        )
