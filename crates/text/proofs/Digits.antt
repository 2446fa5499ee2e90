-- The digits of a byte.
use Prim.Native.Nat.{ℕ, ◌+◌, ◌/◌, ◌%◌, ◌≤◌, ◌<◌}
use mathlib.Core.Path.{◌≡◌}
use mathlib.Core.List.{[], ◌∷◌}
use native.Mathlib.Omega.{arith}
use borrow.Author.Tests.{lt-ltb, le-ltb}
use Rattle.text.specs.Text.{digits, decimal}

pub one_digit : (n : ℕ) → n < 10 → decimal n ≡ (48 + n) ∷ []
unfolding digits
one_digit n h = rw (lt-ltb n 10 h)

pub two_digits : (n : ℕ) → 10 ≤ n → n < 100 → decimal n ≡ (48 + n / 10) ∷ (48 + n % 10) ∷ []
unfolding digits
two_digits n h k = let l : n / 10 < 10 = omega arith in rw (le-ltb n 10 h, lt-ltb (n / 10) 10 l)

pub three_digits : (n : ℕ) → 100 ≤ n → n < 1000 → decimal n ≡ (48 + n / 100) ∷ (48 + n % 100 / 10) ∷ (48 + n % 100 % 10) ∷ []
unfolding digits
three_digits n h k =
    let a : 10 ≤ n = omega arith in
    let b : 10 ≤ n / 10 = omega arith in
    let c : n / 10 / 10 < 10 = omega arith in
    let d : n / 10 / 10 ≡ n / 100 = omega arith in
    let e : n / 10 % 10 ≡ n % 100 / 10 = omega arith in
    let f : n % 10 ≡ n % 100 % 10 = omega arith in
    rw (le-ltb n 10 a, le-ltb (n / 10) 10 b, lt-ltb (n / 10 / 10) 10 c, d, e, f)
