-- The (X, Y) over a field, column by column: a test passes at some of them, or at none.
use Prim.Native.Nat.{ℕ, zero, suc, ◌<◌}
use mathlib.Core.Bool.{Bool, true, false, not, or-true}
use mathlib.Core.Path.{◌≡◌, refl, ◌∙◌}
use native.Mathlib.Nat.{not-suc-le-zero}
use native.Mathlib.Decide.{dec_lt}
use native.Mathlib.Omega.{arith}
use borrow.Author.Tests.{not-true}
use Rattle.basics.specs.Lists.{all, any, table}
use Rattle.basics.proofs.Lists.{any_append, any_get, any_all, all_append, all_table, length_table, get_or_table, both_true}
use Rattle.elliptic.specs.declared.Point.{Point}
use Rattle.elliptic.specs.Curve.{point, columns}

module _ (p : Point → Bool) (q : ℕ) where
  pub columns_some : (n x y : ℕ) → x < n → y < q → p (point x y) ≡ true → any p (columns q n) ≡ true
  columns_some zero x y hx hy e = absurd (not-suc-le-zero hx)
  columns_some (suc n) x y hx hy e =
      any_append p (columns q n) (table (point n) q) ∙
      elim (dec_lt x n) [
        | yes l ↦ rw (columns_some n x y l hy e)
        | no g ↦ (let i : x ≡ n = omega arith in rw (in_column n y hy (rw i at e)) (or-true (any p (columns q n))))
      ]
    where
      in_column : (n y : ℕ) → y < q → p (point n y) ≡ true → any p (table (point n) q) ≡ true
      in_column n y h e = any_get p (table (point n) q) (point 0 0) y (rw (length_table (point n) q) h) (rw (get_or_table (point n) q y (point 0 0) h) e)

  pub columns_all : (n : ℕ) → ((x y : ℕ) → x < n → y < q → p (point x y) ≡ true) → all p (columns q n) ≡ true
  columns_all zero h = refl
  columns_all (suc n) h =
      all_append p (columns q n) (table (point n) q) ∙
      both_true (all p (columns q n)) (all p (table (point n) q)) (columns_all n (λ x y k. h x y (omega arith))) (all_table p (point n) q (λ y. h n y (omega arith)))

pub columns_none : (p : Point → Bool) (q n : ℕ) → ((x y : ℕ) → x < n → y < q → p (point x y) ≡ false) → any p (columns q n) ≡ false
columns_none p q n h = not-true _ (any_all p (columns q n) ∙ columns_all (λ P. not (p P)) q n (λ x y hx hy. rw (h x y hx hy)))
