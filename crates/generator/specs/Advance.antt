-- The rows of a run with one more point or two.
use Rattle.std.specs.Prelude.{ℕ, ◌+◌, ◌<◌, ◌≤◌, List, get_or}
use Rattle.engine.specs.declared.pair.Sizes.{Sizes}
use Rattle.values.specs.Values.{Shown, ShownIn, RunsFirst}
use Rattle.two_places.specs.Turns.{low_between, high_between, Twice}
use Rattle.generator.specs.Rows.{RowsStep, raised_of, Able, Rows, pair_after}

-- two points at once: a₁ and b₁ are the factors between them
pub record BothRows (m i t : ℕ) (xs l u a b : List ℕ) (low high : ℕ) (l' u' a' b' : List ℕ) (r : Sizes) : Type 0 where
  pub a₁ : List ℕ
  pub b₁ : List ℕ
  pub pair : Twice m xs i t l u low high l' u' r
  pub first : RowsStep m i xs (raised_of i l u) l u a b (low_between m xs (get_or xs i 0) l) (high_between m xs t l u) a₁ b₁
  pub second : RowsStep m (i + 1) xs (raised_of (i + 1) (high_between m xs t l u) (low_between m xs (get_or xs i 0) l)) (low_between m xs (get_or xs i 0) l) (high_between m xs t l u) a₁ b₁ l' u' a' b'

-- c of the points are done then, at most so many as the limit says; count is the number of rows
pub record RowsAdvance (m i limit : ℕ) (xs l u a b : List ℕ) (low high : ℕ) (l' u' a' b' : List ℕ) (c : ℕ) (r : Sizes) : Type 0 where
  pub further : i < c
  pub within : c ≤ limit
  pub next : (ys : List ℕ) (count : ℕ) → limit ≤ count → RunsFirst m xs ys count → Able m xs ys count → Shown m xs ys i l u low high (pair_after m xs ys i) → Rows m xs ys count l u a b i
      → ShownIn m xs ys c l' u' r (pair_after m xs ys c) × Rows m xs ys count l' u' a' b' c
