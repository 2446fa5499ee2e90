-- A run of the engine over the kept places, by values at all points: what it needs, what it reaches, and the place behind it that it ends with.
use Rattle.std.specs.Prelude.{ℕ, ◌+◌, ◌-◌, ◌<◌, ◌≤◌, ◌≡◌, cond, List, eqb, length, get_or}
use Rattle.field.specs.Galois.{galois}
use Rattle.elliptic.specs.Pair.{State, add_scaled, after}
use Rattle.engine.specs.declared.pair.Sizes.{Sizes}
use Rattle.engine.specs.Places.{points_of, Runs}
use Rattle.values.specs.Values.{Coordinates, Shows, ShownIn}
use Rattle.solving.specs.Given.{missing}
use Rattle.correction.specs.Kept.{kept_before, kept_in, symbols_at}

-- coordinates with symbols received there, of which some are kept, and room for the functions of so many kept places
pub record RunsKept (m : ℕ) (xs ys r e : List ℕ) (count : ℕ) : Type 0 where
  pub coordinates : Coordinates m xs ys
  pub most : length xs ≤ 288
  pub symbols_size : length r ≡ length xs
  pub kept_size : length e ≡ length xs
  pub runs : Runs m xs ys (kept_in e) (symbols_at r (kept_in e)) count

-- the pair and the interpolant of the first kept places
abbrev pub kept_state : ℕ → List ℕ → List ℕ → List ℕ → List ℕ → ℕ → State
kept_state m xs ys r e i = after (galois m) (points_of xs ys (kept_in e)) (symbols_at r (kept_in e)) i

-- the arrays hold their values at all points, and the index is behind the last of these places
pub record RanKept (m : ℕ) (xs ys r e : List ℕ) (count : ℕ) (l u f : List ℕ) (n : Sizes) (behind : ℕ) : Type 0 where
  pub first_size : length l ≡ length xs
  pub second_size : length u ≡ length xs
  pub pair : ShownIn m xs ys 0 l u n (kept_state m xs ys r e count)
  pub word : Shows m xs ys 0 (kept_state m xs ys r e count).word f
  pub inside : behind ≤ length e
  pub passed : length (kept_before e behind) ≡ count

-- at least two kept places are left from the index on, and the values l are as many as all places
pub record TwoLeft (e l : List ℕ) (behind : ℕ) : Type 0 where
  pub inside : behind ≤ length e
  pub values_size : length l ≡ length e
  pub two : length (kept_before e behind) + 1 < length (kept_in e)

-- the index of a kept place, and of the last one that is used after c of them: the next, or the one after it where L, by its values l, is zero there
abbrev pub kept_index : List ℕ → ℕ → ℕ
kept_index e i = get_or (kept_in e) i 0 - 1

abbrev pub last_kept : List ℕ → List ℕ → ℕ → ℕ
last_kept e l c = kept_index e (cond (eqb (get_or l (kept_index e c) 0) 0) (c + 1) c)

-- f with the multiple of L that makes it the symbol received at the index
abbrev pub finished : ℕ → List ℕ → List ℕ → List ℕ → ℕ → List ℕ
finished m r l f j = add_scaled (galois m) (missing m j (get_or r j 0) l f) l f
