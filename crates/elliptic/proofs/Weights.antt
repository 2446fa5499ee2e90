-- The weights 0, 2, 3, 4, .. of the monomials by their indices.
use Prim.Native.Nat.{ℕ, zero, suc, ◌+◌, ◌<◌, ◌≤◌, zero-le}
use mathlib.Core.Path.{◌≡◌}
use native.Mathlib.Omega.{arith}
use Rattle.elliptic.specs.Functions.{weight}

pub weight_le : (n : ℕ) → weight n ≤ suc n
unfolding weight
weight_le zero = omega arith
weight_le (suc n) = omega arith

pub weight_lt : (m n : ℕ) → m < n → weight m < weight n
unfolding weight
weight_lt m zero h = absurd (omega arith)
weight_lt zero (suc n) h = omega arith
weight_lt (suc m) (suc n) h = omega arith

pub weight_less : (m n : ℕ) → weight m < weight n → m < n
unfolding weight
weight_less m zero h = absurd (omega arith)
weight_less zero (suc n) h = omega arith
weight_less (suc m) (suc n) h = omega arith

pub index_le : (n w : ℕ) → weight n ≤ suc w → n ≤ w
unfolding weight
index_le zero w h = zero-le
index_le (suc n) w h = omega arith

-- the index of a weight
pub weight_index : (n w : ℕ) → weight n ≡ suc w → n ≡ w
unfolding weight
weight_index zero w e = absurd (omega arith)
weight_index (suc n) w e = omega arith

-- no monomial weighs 1
pub odd_sum : (n m k : ℕ) → weight n + weight m ≡ k + k + 1 → 3 ≤ weight n + weight m
unfolding weight
odd_sum zero zero k e = absurd (omega arith)
odd_sum zero (suc m) k e = omega arith
odd_sum (suc n) m k e = omega arith

-- a monomial that is heavier by 2 stands two places further, but for X, which stands one after 1
pub index_two : (m n : ℕ) → weight n ≡ weight m + 2 → 2 ≤ n → m + 2 ≤ n
unfolding weight
index_two zero n e h = h
index_two (suc m) n e h = let i : n ≡ m + 3 = weight_index n (m + 3) (omega arith) in omega arith
