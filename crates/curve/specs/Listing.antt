-- What the loops of Points do to the two buffers.
use Rattle.std.specs.Prelude.{ℕ, ◌≡◌, List, ◌++◌, map, length, take}
use Rattle.basics.specs.Lists.{written}
use Rattle.elliptic.specs.declared.Point.{Point}
use Rattle.curve.specs.Points.{room}

-- xs and ys hold the points as far as there is room, n of them, and behind these what was there at first
pub record Listed (points : List Point) (xs₀ ys₀ xs ys : List ℕ) (n : ℕ) : Type 0 where
  pub in_xs : xs ≡ written (map (λ P. P.x) (take room points)) xs₀
  pub in_ys : ys ≡ written (map (λ P. P.y) (take room points)) ys₀
  pub number : n ≡ length (take room points)

-- both buffers are of this length
abbrev pub Rooms : List ℕ → List ℕ → Type 0
Rooms xs ys = (length xs ≡ room) × (length ys ≡ room)

-- whatever was listed, these points are listed behind it
pub record Appends (more : List Point) (xs ys : List ℕ) (n : ℕ) (xs' ys' : List ℕ) (n' : ℕ) : Type 0 where
  pub behind : (points : List Point) (xs₀ ys₀ : List ℕ) → Rooms xs₀ ys₀ → Listed points xs₀ ys₀ xs ys n → Listed (points ++ more) xs₀ ys₀ xs' ys' n'
