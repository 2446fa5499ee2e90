-- Values that are put back from the order with the chosen places first.
use Rattle.std.specs.Prelude.{ℕ, ◌+◌, ◌<◌, ◌≤◌, ◌≡◌, List, length, get_or}
use Rattle.basics.specs.Lists.{table}
use Rattle.arrangement.specs.Arranged.{free_at, rank, Places, Apart}

-- what is lent: different places, one at least, and f marks the free points
pub record Marked (J w f : List ℕ) : Type 0 where
  pub places : Places (length w) J
  pub apart : Apart J
  pub some : 1 ≤ length J
  pub frees : f ≡ table (free_at J) (length w)
  pub most : length w ≤ 288

-- the values at the free points are put back
pub record Freed (J w f : List ℕ) : Type 0 where
  pub size : length w ≡ length f
  pub rest : (t : ℕ) → t < length f → free_at J t ≡ 1 → get_or w (length J + rank (free_at J) t) 0 ≡ get_or f t 0
