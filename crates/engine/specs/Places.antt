-- Places, numbered from 1, of points that are given by two lists of coordinates.
use Rattle.std.specs.Prelude.{ℕ, ◌-◌, ◌<◌, ◌≤◌, ◌≡◌, List, map, length, get_or}
use Rattle.field.specs.Galois.{galois}
use Rattle.elliptic.specs.declared.Point.{Point}
use Rattle.elliptic.specs.Curve.{point}
use Rattle.elliptic.specs.Pair.{evaluate, after}
use Rattle.engine.specs.Arrays.{Small}

-- the point at a place
abbrev pub point_of : List ℕ → List ℕ → ℕ → Point
point_of xs ys p = point (get_or xs (p - 1) 0) (get_or ys (p - 1) 0)

abbrev pub points_of : List ℕ → List ℕ → List ℕ → List Point
points_of xs ys places = map (point_of xs ys) places

-- one of the coordinates of the point at the i-th place of a list
abbrev pub coordinate_at : List ℕ → List ℕ → ℕ → ℕ
coordinate_at from places i = get_or from (get_or places i 0 - 1) 0

-- the value of f at the point with index i
abbrev pub value_at : ℕ → List ℕ → List ℕ → List ℕ → ℕ → ℕ
value_at m xs ys f i = evaluate (galois m) f (point (get_or xs i 0) (get_or ys i 0))

-- the first of a list are places of n points
pub record Chosen (n : ℕ) (places : List ℕ) (count : ℕ) : Type 0 where
  pub enough : count ≤ length places
  pub each_is_place : (i : ℕ) → i < count → (1 ≤ get_or places i 0) × (get_or places i 0 ≤ n)

-- p is the number of a point
pub record IsPlace (xs ys : List ℕ) (p : ℕ) : Type 0 where
  pub one : 1 ≤ p
  pub most : p ≤ length xs
  pub coordinates : length ys ≡ length xs

-- so are the first of a list
pub record Within (xs ys places : List ℕ) (count : ℕ) : Type 0 where
  pub enough : count ≤ length places
  pub each_is_place : (i : ℕ) → i < count → IsPlace xs ys (get_or places i 0)

-- and the functions of fewer places have room
pub record Runs (m : ℕ) (xs ys places symbols : List ℕ) (count : ℕ) : Type 0 where
  pub within : Within xs ys places count
  pub small : (i : ℕ) → i < count → Small (after (galois m) (points_of xs ys places) symbols i)
