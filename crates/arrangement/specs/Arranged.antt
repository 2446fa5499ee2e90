-- The coordinates of all points in another order: those at the chosen places first, in the order of these, and then the others in ascending order.
use Rattle.std.specs.Prelude.{ℕ, zero, suc, ◌+◌, ◌<◌, ◌≤◌, ◌≡◌, cond, List, eqb, length, get_or}
use Rattle.basics.specs.Lists.{any, table}
use Rattle.engine.specs.Places.{coordinate_at}

-- 1 where the point with index t, whose place is t + 1, is at none of the places, and else 0
abbrev pub free_at : List ℕ → ℕ → ℕ
free_at J t = cond (any (eqb (t + 1)) J) 0 1

-- the sum of g 0 to g (t − 1): how many free indices come before t
abbrev pub rank : (ℕ → ℕ) → ℕ → ℕ
rank g zero = 0
rank g (suc t) = rank g t + g t

-- every place is 1 to n
abbrev pub Places : ℕ → List ℕ → Type 0
Places n J = (j : ℕ) → j < length J → (1 ≤ get_or J j 0) × (get_or J j 0 ≤ n)

-- no place stands twice
abbrev pub Apart : List ℕ → Type 0
Apart J = (i j : ℕ) → i < j → j < length J → get_or J i 0 ≡ get_or J j 0 → ⊥

-- the coordinates at the places stand at the front of out
abbrev pub Gathered : List ℕ → List ℕ → List ℕ → Type 0
Gathered from J out = (j : ℕ) → j < length J → get_or out j 0 ≡ coordinate_at from J j

-- what is lent: different places, the free indices marked, and room for all points
pub record Arrangeable (J free from out : List ℕ) : Type 0 where
  pub places : Places (length from) J
  pub apart : Apart J
  pub frees : free ≡ table (free_at J) (length from)
  pub room : length out ≡ length from
  pub few : length from ≤ 288

-- out has the coordinates at the first places in front, as many as count, and behind them those at the free indices
pub record Arranged (from J : List ℕ) (count : ℕ) (out : List ℕ) : Type 0 where
  pub size : length out ≡ length from
  pub chosen : (j : ℕ) → j < count → get_or out j 0 ≡ coordinate_at from J j
  pub rest : (t : ℕ) → t < length from → free_at J t ≡ 1 → get_or out (count + rank (free_at J) t) 0 ≡ get_or from t 0
