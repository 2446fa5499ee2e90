-- A row of the matrix while points are added: the function that is 1 at its own point and 0 at the others so far, by what it is a multiple of.
-- The chosen points stand first in the lists of coordinates, so the row with index j is that of the point with index j.
use Rattle.std.specs.Prelude.{ℕ, zero, suc, ◌+◌, ◌*◌, ◌-◌, ◌<◌, ◌≤◌, ◌≡◌, cond, List, [], eqb, length, get_or, set}
use Rattle.basics.specs.Lists.{table}
use Rattle.field.specs.Sum.{◌⊕◌}
use Rattle.field.specs.Field.{Arithmetic}
use Rattle.field.specs.Galois.{galois, product, inverse, size}
use Rattle.field.specs.Tables.{IsLog, product_by_log}
use Rattle.elliptic.specs.Pair.{State, after}
use Rattle.engine.specs.Places.{value_at}
use Rattle.values.specs.Values.{points_in, Sweeping}
use Rattle.arrangement.specs.Arranged.{rank}

-- the sum of g 0, .., g (i − 1)
abbrev pub total : (ℕ → ℕ) → ℕ → ℕ
total g zero = 0
total g (suc i) = total g i ⊕ g i

module _ (F : Arithmetic) where
  infixl 70 ◌·◌
  open F use {q, ◌·◌, inv}

  -- (X + x)·f is a·l + b·u at every point from index d on
  pub record Row (xs l u : List ℕ) (d x a b : ℕ) (f : ℕ → ℕ) : Type 0 where
    pub at : (t : ℕ) → d ≤ t → t < length xs → (get_or xs t 0 ⊕ x) · f t ≡ a · get_or l t 0 ⊕ b · get_or u t 0
    pub first_lt : a < q
    pub second_lt : b < q

  -- f without the multiple of r that it has at the point with index c
  abbrev pub gained : ℕ → List ℕ → (ℕ → ℕ) → ℕ → ℕ
  gained c r f t = f t ⊕ f c · inv (get_or r c 0) · get_or r t 0

-- the row with index j in the arrays of all rows
abbrev pub RowIn : ℕ → List ℕ → List ℕ → List ℕ → ℕ → List ℕ → List ℕ → ℕ → (ℕ → ℕ) → Type 0
RowIn m xs l u d a b j f = Row (galois m) xs l u d (get_or xs j 0) (get_or a j 0) (get_or b j 0) f

-- ---- one more point, with first coordinate α, where the function that is raised is rc and the other t·rc

-- the multiple of the raised function that a row has there, unless its own coordinate is α too
abbrev pub multiple_at : ℕ → ℕ → ℕ → List ℕ → List ℕ → List ℕ → ℕ → ℕ
multiple_at m α t xs a b j = product m (get_or a j 0 ⊕ product m t (get_or b j 0)) (inverse m (α ⊕ get_or xs j 0))

-- o is the index of one of the first i rows whose coordinate is α, and i where there is none
pub record Over (xs : List ℕ) (i α o : ℕ) : Type 0 where
  pub most : o ≤ i
  pub hit : o < i → get_or xs o 0 ≡ α
  pub seen : (j : ℕ) → j < i → get_or xs j 0 ≡ α → o < i

-- the first i rows and the new one, that of the point with index i. All rows together are 1 everywhere, which gives the one over α
pub record RowsRaised (m i rc t : ℕ) (xs a b a' b' : List ℕ) : Type 0 where
  pub first_size : length a' ≡ length a
  pub second_size : length b' ≡ length b
  pub away : (j : ℕ) → j < i → (get_or xs j 0 ≡ get_or xs i 0 → ⊥) → get_or a' j 0 ≡ multiple_at m (get_or xs i 0) t xs a b j
  pub over : (j : ℕ) → j < i → get_or xs j 0 ≡ get_or xs i 0 → ((k : ℕ) → k < i → get_or xs k 0 ≡ get_or xs i 0 → k ≡ j)
      → get_or a' j 0 ≡ inverse m rc ⊕ total (multiple_at m (get_or xs i 0) t xs a b) i
  pub second : (j : ℕ) → j < i → get_or b' j 0 ≡ get_or b j 0
  pub new_first : get_or a' i 0 ≡ inverse m rc
  pub new_second : get_or b' i 0 ≡ 0

-- the same where L, in l, or U, in u, is raised: that which is not zero at the point
pub record RowsEither (m i : ℕ) (xs l u a b a' b' : List ℕ) : Type 0 where
  pub by_high : get_or l i 0 ≡ 0 → RowsRaised m i (get_or u i 0) 0 xs b a b' a'
  pub by_low : (get_or l i 0 ≡ 0 → ⊥) → RowsRaised m i (get_or l i 0) (product m (get_or u i 0) (inverse m (get_or l i 0))) xs a b a' b'

-- the function that a step with the point at index i raises
abbrev pub raised_of : ℕ → List ℕ → List ℕ → List ℕ
raised_of i l u = cond (eqb (get_or l i 0) 0) u l

-- what the rows' functions have to be at the point with index i, where r is raised
pub record Ready (m i : ℕ) (xs r l u : List ℕ) (f : ℕ → ℕ → ℕ) : Type 0 where
  pub inside : i < length xs
  pub point_lt : (j : ℕ) → j < length xs → get_or xs j 0 < size m
  pub first_lt : get_or l i 0 < size m
  pub second_lt : get_or u i 0 < size m
  pub value_lt : (j : ℕ) → j < i → f j i < size m
  pub some : get_or r i 0 ≡ 0 → ⊥
  pub whole : 0 < i → total (λ j. f j i) i ≡ 1
  pub alone : (j k : ℕ) → j < i → k < i → get_or xs j 0 ≡ get_or xs i 0 → get_or xs k 0 ≡ get_or xs i 0 → k ≡ j

-- a step with the point at index i, where r is raised: every row stays a row, without the multiple of r that it had there, and there is one more
pub record RowsStep (m i : ℕ) (xs r l u a b l' u' a' b' : List ℕ) : Type 0 where
  pub first_size : length a' ≡ length a
  pub second_size : length b' ≡ length b
  pub old : (f : ℕ → ℕ → ℕ) → Ready m i xs r l u f → ((j : ℕ) → j < i → RowIn m xs l u i a b j (f j))
      → (j : ℕ) → j < i → RowIn m xs l' u' (i + 1) a' b' j (gained (galois m) i r (f j))
  pub new : RowIn m xs l' u' (i + 1) a' b' i (λ t. product m (inverse m (get_or r i 0)) (get_or r t 0))

-- room for so many rows
pub record RowLists (xs a b : List ℕ) (count : ℕ) : Type 0 where
  pub points : count ≤ length xs
  pub firsts : count ≤ length a
  pub seconds : count ≤ length b

-- ---- the entries

-- r is what products with a are looked up by
pub record Factor (m a r : ℕ) : Type 0 where
  pub is_log : IsLog m r
  pub times : (b : ℕ) → product_by_log m r b ≡ product m a b

-- the value of row j at a point with first coordinate α where L and U are v and w, unless its own coordinate is α too
abbrev pub quotient_at : ℕ → ℕ → ℕ → ℕ → List ℕ → List ℕ → List ℕ → ℕ → ℕ
quotient_at m α v w xs a b j = product m (product m (get_or a j 0) v ⊕ product m (get_or b j 0) w) (inverse m (α ⊕ get_or xs j 0))

-- what its factors give it at the point with index s: its value there, unless both have the same first coordinate, and then 0
abbrev pub part_at : ℕ → List ℕ → List ℕ → List ℕ → List ℕ → List ℕ → ℕ → ℕ → ℕ
part_at m xs l u a b j s = quotient_at m (get_or xs s 0) (get_or l s 0) (get_or u s 0) xs a b j

-- what the first i rows leave of 1 there, but for the one over its coordinate
abbrev pub left_at : ℕ → List ℕ → List ℕ → List ℕ → List ℕ → List ℕ → ℕ → ℕ → ℕ
left_at m xs l u a b i s = 1 ⊕ total (quotient_at m (get_or xs s 0) (get_or l s 0) (get_or u s 0) xs a b) i

-- its value at the point with index s: where both have the same first coordinate, it is what the other rows leave of 1
abbrev pub entry_at : ℕ → List ℕ → List ℕ → List ℕ → List ℕ → List ℕ → ℕ → ℕ → ℕ → ℕ
entry_at m xs l u a b count j s = cond (eqb (get_or xs s 0) (get_or xs j 0)) (left_at m xs l u a b count s) (part_at m xs l u a b j s)

-- ---- the rows are the words of the unit messages

-- the symbols of the row with index j: 1 at its own point and 0 at the others
abbrev pub unit_symbols : ℕ → ℕ → List ℕ
unit_symbols count j = table (λ t. cond (eqb t j) 1 0) count

module _ (m : ℕ) (xs ys : List ℕ) where
  -- the pair of the first i points, and the word of the row with index j of so many
  abbrev pub pair_after : ℕ → State
  pair_after i = after (galois m) (points_in xs ys) [] i

  abbrev pub row_value : ℕ → ℕ → ℕ → ℕ → ℕ
  row_value count j i t = value_at m xs ys (after (galois m) (points_in xs ys) (unit_symbols count j) i).word t

  -- what the theory says of different points of a curve
  pub record Able (count : ℕ) : Type 0 where
    pub point_lt : (t : ℕ) → t < length xs → get_or xs t 0 < size m
    pub low_lt : (i t : ℕ) → i < count → t < length xs → value_at m xs ys (pair_after i).low t < size m
    pub high_lt : (i t : ℕ) → i < count → t < length xs → value_at m xs ys (pair_after i).high t < size m
    pub word_lt : (j i t : ℕ) → i ≤ count → t < length xs → row_value count j i t < size m
    pub some : (i : ℕ) → i < count → value_at m xs ys (pair_after i).low i ≡ 0 → value_at m xs ys (pair_after i).high i ≡ 0 → ⊥
    pub alone : (i j k : ℕ) → i < count → j < i → k < i → get_or xs j 0 ≡ get_or xs i 0 → get_or xs k 0 ≡ get_or xs i 0 → k ≡ j

  -- the first i rows of so many, in the arrays; together they are 1
  pub record Rows (count : ℕ) (l u a b : List ℕ) (i : ℕ) : Type 0 where
    pub row : (j : ℕ) → j < i → RowIn m xs l u i a b j (row_value count j i)
    pub whole : 0 < i → (t : ℕ) → i ≤ t → t < length xs → total (λ j. row_value count j i t) i ≡ 1

-- the symbol at index t of a row whose entries at the free points, which stand behind the first count, are g
abbrev pub symbol_at : ℕ → List ℕ → (ℕ → ℕ) → ℕ → ℕ
symbol_at count free g t = cond (eqb (get_or free t 0) 0) 0 (g (count + rank (λ i. get_or free i 0) t))

-- ---- a row is written at the free points alone, by the index of each. The indices are looked up as two bytes, behind the factors of the rows

-- the index of the point in slot s
abbrev pub index_at : List ℕ → List ℕ → ℕ → ℕ
index_at a b s = get_or a s 0 + 256 * get_or b s 0

abbrev pub Inside : ℕ → ℕ → List ℕ → List ℕ → Type 0
Inside count n a b = (s : ℕ) → count ≤ s → s < n → index_at a b s < n

-- 1 marks the free points, which are as many as the slots behind the first count
pub record Marked (count : ℕ) (free : List ℕ) : Type 0 where
  pub small : (t : ℕ) → t < length free → get_or free t 0 ≤ 1
  pub whole : count + rank (λ i. get_or free i 0) (length free) ≡ length free
  pub most : length free ≤ 288

-- each slot from count on has the index of a free point, in ascending order
pub record Indexed (count n : ℕ) (free a b : List ℕ) : Type 0 where
  pub inside : Inside count n a b
  pub is_free : (s : ℕ) → count ≤ s → s < n → get_or free (index_at a b s) 0 ≡ 1
  pub ranked : (s : ℕ) → count ≤ s → s < n → count + rank (λ i. get_or free i 0) (index_at a b s) ≡ s
  pub whole : count + rank (λ i. get_or free i 0) n ≤ n

-- the indices have been put behind the factors, which are as they were
pub record Behind (count : ℕ) (free a b a' b' : List ℕ) : Type 0 where
  pub indexed : Indexed count (length free) free a' b'
  pub firsts : (j : ℕ) → j < count → get_or a' j 0 ≡ get_or a j 0
  pub seconds : (j : ℕ) → j < count → get_or b' j 0 ≡ get_or b j 0

-- a slot for each point in every array, with the indices behind the first count
pub record Slots (count : ℕ) (xs a b sums row : List ℕ) : Type 0 where
  pub points : count ≤ length xs
  pub first_size : length a ≡ length xs
  pub second_size : length b ≡ length xs
  pub sum_size : length sums ≡ length xs
  pub row_size : length row ≡ length xs
  pub inside : Inside count (length xs) a b
  pub most : length xs ≤ 288

-- the row with index j has its parts at the free points, and they are added to the sums of these
pub record Filled (m j count : ℕ) (xs l u a b sums sums' row : List ℕ) : Type 0 where
  pub added : Sweeping (λ s. get_or sums s 0 ⊕ part_at m xs l u a b j s) count (length xs) sums sums'
  pub symbols : (free : List ℕ) → Indexed count (length xs) free a b → row ≡ table (symbol_at count free (part_at m xs l u a b j)) (length xs)

-- a row that has h at the free points gets the sum at one over its own coordinate, which makes that g, and 1 at its own place
pub record Completed (j count place : ℕ) (xs a b sums row row' : List ℕ) : Type 0 where
  pub size : length row' ≡ length row
  pub symbols : (free : List ℕ) → Indexed count (length xs) free a b → (g h : ℕ → ℕ)
      → ((s : ℕ) → count ≤ s → s < length xs → get_or xs s 0 ≡ get_or xs j 0 → get_or sums s 0 ≡ g s)
      → ((s : ℕ) → count ≤ s → s < length xs → (get_or xs s 0 ≡ get_or xs j 0 → ⊥) → h s ≡ g s)
      → row ≡ table (symbol_at count free h) (length xs) → row' ≡ set (table (symbol_at count free g) (length xs)) (place - 1) 1
