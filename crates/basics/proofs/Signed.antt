-- Signed numbers: what the machine's sum, difference and negation are where the result fits, and how far a number is from zero.
use Prim.Native.Nat.{ℕ, zero, suc, ◌+◌, ◌^◌, ◌≤◌, ◌<◌, ◌-◌}
use mathlib.Core.Path.{◌≡◌, refl}
use mathlib.Core.Bool.{Bool, true, false, cond}
use native.Mathlib.Nat.{le_refl, lt_of_lt_of_le}
use native.Mathlib.Omega.{arith}
use borrow.Author.Tests.{ltb-true}
use lib.Dec.{T, ltb}
use lib.IntN.{ℤ, pos, negsuc, neg_ℤ, nat_abs, ◌+ℤ◌, ◌-ℤ◌, +ℤ_idl}
use lib.Signed.{mag, lt_z, non_neg}
use mir.Syntax.{Width}
use mir.Val.{SFits, to_z, of_z, hbits}
use mir.ValLaws.{to_z-of_z, to_z_pos}

-- ---- the distance from zero

pub nat_abs_neg : (z : ℤ) → nat_abs (neg_ℤ z) ≡ nat_abs z
nat_abs_neg (pos zero) = refl
nat_abs_neg (pos (suc n)) = refl
nat_abs_neg (negsuc n) = refl

pub mag_nat_abs : (z : ℤ) → mag z ≤ nat_abs z
mag_nat_abs (pos n) = le_refl n
mag_nat_abs (negsuc n) = omega arith

nat_abs_between : (b : Bool) (m n : ℕ) → nat_abs (cond b (negsuc (suc n - suc m)) (pos (m - suc n))) ≤ m + suc n
nat_abs_between true m n = omega arith
nat_abs_between false m n = omega arith

pub nat_abs_add : (x y : ℤ) → nat_abs (x +ℤ y) ≤ nat_abs x + nat_abs y
nat_abs_add (pos m) (pos n) = le_refl (m + n)
nat_abs_add (pos m) (negsuc n) = nat_abs_between (ltb m (suc n)) m n
nat_abs_add (negsuc m) (pos n) = omega (arith, nat_abs_between (ltb n (suc m)) n m)
nat_abs_add (negsuc m) (negsuc n) = omega arith

pub nat_abs_sub : (x y : ℤ) → nat_abs (x -ℤ y) ≤ nat_abs x + nat_abs y
nat_abs_sub x y = omega (arith, nat_abs_add x (neg_ℤ y), nat_abs_neg y)

-- ---- signs

pub opposite : (z : ℤ) → pos 0 -ℤ z ≡ neg_ℤ z
opposite z = +ℤ_idl (neg_ℤ z)

pub neg_non_neg : (z : ℤ) → lt_z z (pos 0) ≡ true → T (non_neg (neg_ℤ z))
neg_non_neg (pos n) e = absurd (let h = ltb-true n 0 e in omega arith)
neg_non_neg (negsuc n) e = tt

pub not_neg : (z : ℤ) → lt_z z (pos 0) ≡ false → T (non_neg z)
not_neg (pos n) e = tt
not_neg (negsuc n) e = let z : ◌≡◌ {A = ℕ} 0 1 = cc in absurd (omega arith)

-- ---- what fits

module _ (w : Width) where
  pub fits_by_size : (z : ℤ) → nat_abs z < 2 ^ hbits w → SFits w z
  fits_by_size z h = record { sfits = omega (arith, mag_nat_abs z) }

  pub neg_fits : (z : ℤ) → nat_abs z < 2 ^ hbits w → SFits w (neg_ℤ z)
  neg_fits z h = fits_by_size (neg_ℤ z) (rw (nat_abs_neg z) h)

  pub add_fits : (x y : ℤ) → nat_abs x + nat_abs y < 2 ^ hbits w → SFits w (x +ℤ y)
  add_fits x y h = fits_by_size (x +ℤ y) (omega (arith, nat_abs_add x y))

  pub sub_fits : (x y : ℤ) → nat_abs x + nat_abs y < 2 ^ hbits w → SFits w (x -ℤ y)
  sub_fits x y h = fits_by_size (x -ℤ y) (omega (arith, nat_abs_sub x y))

  -- ---- the machine's operations, which work on the bits of a number

  pub added : (x y : ℤ) → nat_abs x + nat_abs y < 2 ^ hbits w → to_z w (of_z w (x +ℤ y)) ≡ x +ℤ y
  added x y h = to_z-of_z w _ (add_fits x y h)

  -- the negation of the number that the bits n stand for
  pub negated : (n : ℕ) → n < 2 ^ hbits w → to_z w (of_z w (pos 0 -ℤ to_z w n)) ≡ neg_ℤ (pos n)
  negated n h = rw (to_z_pos w n h, opposite) (to_z-of_z w _ (neg_fits (pos n) h))

-- a number is as it was in a wider place
pub widened : (v w : Width) (z : ℤ) → 2 ^ hbits v ≤ 2 ^ hbits w → SFits v z → to_z w (of_z w (to_z v (of_z v z))) ≡ z
widened v w z h f = rw (to_z-of_z v z f) (to_z-of_z w z (record { sfits = lt_of_lt_of_le f.sfits h }))
