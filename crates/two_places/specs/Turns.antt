-- Two steps at once, with the points at indices i and i + 1: the first raises L, the second U, which has become the shorter in between.
use Rattle.std.specs.Prelude.{ℕ, ◌+◌, ◌<◌, ◌≤◌, ◌≡◌, List, [], length, get_or}
use Rattle.basics.specs.Lists.{table}
use Rattle.field.specs.Sum.{◌⊕◌}
use Rattle.field.specs.Galois.{galois, product, inverse}
use Rattle.elliptic.specs.Pair.{after}
use Rattle.engine.specs.declared.pair.Sizes.{Sizes}
use Rattle.values.specs.Values.{Shown, ShownIn, RunsFirst, Steps, Passes, raised_at, gained_at, points_in}
use Rattle.two_places.specs.declared.turn.Factors.{Factors}

-- the values between the two places
abbrev pub low_between : ℕ → List ℕ → ℕ → List ℕ → List ℕ
low_between m xs α l = table (raised_at m xs α l) (length xs)

abbrev pub high_between : ℕ → List ℕ → ℕ → List ℕ → List ℕ → List ℕ
high_between m xs t l u = table (gained_at m t l u) (length xs)

-- the rules of one pass
abbrev pub raised_twice : ℕ → List ℕ → ℕ → ℕ → List ℕ → List ℕ → ℕ → ℕ
raised_twice m xs t β h g i = product m (get_or xs i 0 ⊕ β) (gained_at m t h g i)

abbrev pub gained_twice : ℕ → List ℕ → ℕ → ℕ → ℕ → List ℕ → List ℕ → ℕ → ℕ
gained_twice m xs α t s h g i = raised_at m xs α h i ⊕ product m s (gained_at m t h g i)

pub record IsFactors (m : ℕ) (xs : List ℕ) (i : ℕ) (l u : List ℕ) (w : Factors) : Type 0 where
  pub first : w.t ≡ product m (get_or u i 0) (inverse m (get_or l i 0))
  pub next : w.next ≡ gained_at m w.t l u (i + 1)
  pub second : w.s ≡ product m (raised_at m xs (get_or xs i 0) l (i + 1)) (inverse m w.next)

-- the functions that are raised are not zero at their points
pub record Turns (m : ℕ) (xs : List ℕ) (i : ℕ) (l u : List ℕ) (w : Factors) : Type 0 where
  pub are : IsFactors m xs i l u w
  pub some : get_or l i 0 ≡ 0 → ⊥
  pub next_some : w.next ≡ 0 → ⊥

-- so the second step makes a and b of what the first makes of l and u
pub record Twice (m : ℕ) (xs : List ℕ) (i t : ℕ) (l u : List ℕ) (low high : ℕ) (a b : List ℕ) (r : Sizes) : Type 0 where
  pub steps : Steps m xs (i + 1) (i + 1 + 1) (high_between m xs t l u) (low_between m xs (get_or xs i 0) l) low high a b r
  pub passes : Passes m xs (i + 1) (i + 1 + 1) (high_between m xs t l u) (low_between m xs (get_or xs i 0) l) b a

-- one point of a run more, or two: c of them are done then, of so many, and the arrays a and b show the pair
pub record Advances (m : ℕ) (xs : List ℕ) (i count : ℕ) (l u : List ℕ) (low high : ℕ) (a b : List ℕ) (c : ℕ) (r : Sizes) : Type 0 where
  pub further : i < c
  pub within : c ≤ count
  pub first_size : length a ≡ length xs
  pub second_size : length b ≡ length xs
  pub next : (ys : List ℕ) → RunsFirst m xs ys count → Shown m xs ys i l u low high (after (galois m) (points_in xs ys) [] i)
      → ShownIn m xs ys c a b r (after (galois m) (points_in xs ys) [] c)
