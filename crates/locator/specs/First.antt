-- The rows before the first place, in arrays.
use Rattle.std.specs.Prelude.{ℕ, ◌+◌, ◌<◌, ◌≡◌, cond, List, ltb, length, get_or}
use Rattle.field.specs.Galois.{product}
use Rattle.locator.specs.Arrays.{Heads, Behind, head, FourLong}

-- the keys, and how many coefficients of E the arrays have
abbrev pub first_heads : ℕ → ℕ → Heads
first_heads k t =
    record {
      a = record { key = 0; size = 0 };
      b = record { key = 6; size = 0 };
      c = record { key = k + k + 1; size = 1 };
      d = record { key = k + k + 7; size = cond (ltb t 2) 1 3 };
    }

-- the defects: 1, Y, the symbol, and the symbol times Y
pub record FirstDefects (m : ℕ) (ys us a b c d : List ℕ) : Type 0 where
  pub lengths : FourLong (length ys) a b c d
  pub in_a : (j : ℕ) → j < length ys → get_or a (head + j) 0 ≡ 1
  pub in_b : (j : ℕ) → j < length ys → get_or b (head + j) 0 ≡ get_or ys j 0
  pub in_c : (j : ℕ) → j < length ys → get_or c (head + j) 0 ≡ get_or us j 0
  pub in_d : (j : ℕ) → j < length ys → get_or d (head + j) 0 ≡ product m (get_or ys j 0) (get_or us j 0)

-- E = 1 in c, and E = Y in d
pub record FirstDens (c d c' d' : List ℕ) : Type 0 where
  pub c_behind : Behind 3 c c'
  pub d_behind : Behind 3 d d'
  pub c_first : get_or c' 0 0 ≡ 1
  pub d_first : get_or d' 0 0 ≡ 0
  pub d_second : get_or d' 1 0 ≡ 0
  pub d_third : get_or d' 2 0 ≡ 1
