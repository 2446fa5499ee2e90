-- Functions by their values at points that two lists of coordinates give.
use Rattle.std.specs.Prelude.{ℕ, ◌+◌, ◌<◌, ◌≤◌, ◌≡◌, cond, List, [], length, get_or}
use Rattle.field.specs.Sum.{◌⊕◌}
use Rattle.field.specs.Galois.{galois, product, inverse, size}
use Rattle.basics.specs.Lists.{table}
use Rattle.elliptic.specs.declared.Point.{Point}
use Rattle.elliptic.specs.Curve.{point}
use Rattle.elliptic.specs.Pair.{State, step, after}
use Rattle.engine.specs.declared.pair.Sizes.{Sizes}
use Rattle.engine.specs.Arrays.{Small}
use Rattle.engine.specs.Places.{value_at}

-- new is old with the elements by the rule from index d on
pub record Swept (rule : ℕ → ℕ) (d : ℕ) (old new : List ℕ) : Type 0 where
  pub size : length new ≡ length old
  pub at : (i : ℕ) → d ≤ i → i < length old → get_or new i 0 ≡ rule i

-- the same of the elements from d to i only, the later ones as they were
pub record Sweeping (rule : ℕ → ℕ) (d i : ℕ) (old new : List ℕ) : Type 0 where
  pub size : length new ≡ length old
  pub done : (k : ℕ) → d ≤ k → k < i → get_or new k 0 ≡ rule k
  pub rest : (k : ℕ) → i ≤ k → get_or new k 0 ≡ get_or old k 0

-- the rules of (X + α)·h and g + t·h
abbrev pub raised_at : ℕ → List ℕ → ℕ → List ℕ → ℕ → ℕ
raised_at m xs α h i = product m (get_or xs i 0 ⊕ α) (get_or h i 0)

abbrev pub gained_at : ℕ → ℕ → List ℕ → List ℕ → ℕ → ℕ
gained_at m t h g i = get_or g i 0 ⊕ product m t (get_or h i 0)

-- v holds the values of f at the points from index d on
pub record Shows (m : ℕ) (xs ys : List ℕ) (d : ℕ) (f v : List ℕ) : Type 0 where
  pub size : length v ≡ length xs
  pub at : (i : ℕ) → d ≤ i → i < length xs → get_or v i 0 ≡ value_at m xs ys f i

-- l and u hold the values of L and U, which have so many coefficients
pub record Shown (m : ℕ) (xs ys : List ℕ) (d : ℕ) (l u : List ℕ) (low high : ℕ) (s : State) : Type 0 where
  pub low_values : Shows m xs ys d s.low l
  pub high_values : Shows m xs ys d s.high u
  pub low_size : low ≡ length s.low
  pub high_size : high ≡ length s.high

-- the same of two arrays that are in the other order where they have turned
abbrev pub ShownIn : ℕ → List ℕ → List ℕ → ℕ → List ℕ → List ℕ → Sizes → State → Type 0
ShownIn m xs ys d a b n s = Shown m xs ys d (cond n.turned b a) (cond n.turned a b) n.low n.high s

-- a step with the point at index j: whatever state the lists stand for, the arrays a and b stand for the next one, from index e on
pub record Steps (m : ℕ) (xs : List ℕ) (j e : ℕ) (l u : List ℕ) (low high : ℕ) (a b : List ℕ) (r : Sizes) : Type 0 where
  pub first_size : length a ≡ length xs
  pub second_size : length b ≡ length xs
  pub next : (ys : List ℕ) (d : ℕ) (s : State) (v : ℕ) → d ≤ j → d ≤ e → Small s → Shown m xs ys d l u low high s
      → ShownIn m xs ys e a b r (step (galois m) (point (get_or xs j 0) (get_or ys j 0)) v s)

-- such a step at each point: of l and u the one that is not zero there is raised, and the other cancelled by it
pub record Passes (m : ℕ) (xs : List ℕ) (j e : ℕ) (l u a b : List ℕ) : Type 0 where
  pub kept_low : get_or l j 0 ≡ 0 → (i : ℕ) → e ≤ i → i < length xs → get_or a i 0 ≡ get_or l i 0
  pub raised_high : get_or l j 0 ≡ 0 → (i : ℕ) → e ≤ i → i < length xs → get_or b i 0 ≡ raised_at m xs (get_or xs j 0) u i
  pub raised_low : (get_or l j 0 ≡ 0 → ⊥) → (i : ℕ) → e ≤ i → i < length xs → get_or a i 0 ≡ raised_at m xs (get_or xs j 0) l i
  pub cancelled_high : (get_or l j 0 ≡ 0 → ⊥) → (i : ℕ) → e ≤ i → i < length xs → get_or b i 0 ≡ gained_at m (product m (get_or u j 0) (inverse m (get_or l j 0))) l u i

-- the same with the interpolant, which is to be v at the point
pub record WordSteps (m : ℕ) (xs : List ℕ) (j e v : ℕ) (l u f : List ℕ) (low high : ℕ) (a b g : List ℕ) (r : Sizes) : Type 0 where
  pub pair : Steps m xs j e l u low high a b r
  pub word_size : length g ≡ length xs
  pub next : (ys : List ℕ) (d : ℕ) (s : State) → d ≤ j → d ≤ e → Shown m xs ys d l u low high s → Shows m xs ys d s.word f
      → Shows m xs ys e (step (galois m) (point (get_or xs j 0) (get_or ys j 0)) v s).word g

-- the points that two lists of coordinates give
abbrev pub points_in : List ℕ → List ℕ → List Point
points_in xs ys = table (λ i. point (get_or xs i 0) (get_or ys i 0)) (length xs)

-- the functions of fewer than so many of the points have room: with symbols there, and without
pub record RunsWith (m : ℕ) (xs ys us : List ℕ) (count : ℕ) : Type 0 where
  pub enough : count ≤ length xs
  pub small : (i : ℕ) → i < count → Small (after (galois m) (points_in xs ys) us i)

abbrev pub RunsFirst : ℕ → List ℕ → List ℕ → ℕ → Type 0
RunsFirst m xs ys count = RunsWith m xs ys [] count

-- second coordinates, as many as first ones, in the field
pub record Coordinates (m : ℕ) (xs ys : List ℕ) : Type 0 where
  pub as_many : length ys ≡ length xs
  pub below : (i : ℕ) → i < length xs → get_or ys i 0 < size m

-- arrays as long as the coordinates, of functions whose coefficients a machine word counts
pub record Fits (xs a b : List ℕ) (n : Sizes) : Type 0 where
  pub first : length a ≡ length xs
  pub second : length b ≡ length xs
  pub low_room : n.low + 2 ≤ 292
  pub high_room : n.high + 2 ≤ 292

-- the value of 1
abbrev pub one : ℕ → ℕ
one i = 1
