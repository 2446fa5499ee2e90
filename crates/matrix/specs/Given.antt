-- The arrays of Matrix: the first coordinates with those of the chosen places first, L and U by their values, and two factors a row.
use Rattle.std.specs.Prelude.{ℕ, ◌*◌, ◌-◌, ◌<◌, ◌≤◌, ◌≡◌, List, length, get_or, set, take, drop, replicate}
use Rattle.basics.specs.Lists.{table}
use Rattle.codewords.specs.Code.{Code}
use Rattle.engine.specs.declared.pair.Sizes.{Sizes}
use Rattle.values.specs.Values.{ShownIn}
use Rattle.arrangement.specs.Arranged.{free_at, Places, Apart, Arranged}
use Rattle.generator.specs.Rows.{Rows, pair_after, part_at, left_at, entry_at, symbol_at, Indexed, Completed}

-- each as long as there are points
pub record Sized (n : ℕ) (px l u a b : List ℕ) : Type 0 where
  pub points : length px ≡ n
  pub lows : length l ≡ n
  pub highs : length u ≡ n
  pub firsts : length a ≡ n
  pub seconds : length b ≡ n

-- the rows of all chosen places but the last; py are the second coordinates, in the order of the first ones
pub record Begun (code : Code) (J px l u a b : List ℕ) (z : Sizes) : Type 0 where
  pub py : List ℕ
  pub firsts : Arranged code.xs J (length J) px
  pub seconds : Arranged code.ys J (length J) py
  pub shown : ShownIn code.field px py (code.k - 1) l u z (pair_after code.field px py (code.k - 1))
  pub rows : Rows code.field px py code.k l u a b (code.k - 1)

-- what is needed to write k rows
pub record Written (k : ℕ) (J px l u a b out : List ℕ) : Type 0 where
  pub points : k ≤ length px
  pub lows : length l ≡ length px
  pub highs : length u ≡ length px
  pub firsts : length a ≡ length px
  pub seconds : length b ≡ length px
  pub most : length px ≤ 288
  pub places : Places (length px) J
  pub apart : Apart J
  pub full : length J ≡ k
  pub room : length out ≡ k * length px

-- the marks of the points that are not chosen
abbrev pub frees : List ℕ → List ℕ → List ℕ
frees J px = table (free_at J) (length px)

-- the symbols of the row with index j
abbrev pub row_at : ℕ → ℕ → List ℕ → List ℕ → List ℕ → List ℕ → List ℕ → List ℕ → ℕ → List ℕ
row_at m k J px l u a b j = set (table (symbol_at k (frees J px) (entry_at m px l u a b k j)) (length px)) (get_or J j 0 - 1) 1

-- the part of the buffer that has row i of n symbols
abbrev pub part : ℕ → ℕ → List ℕ → List ℕ
part n i out = take n (drop (i * n) out)

-- the first i rows have their parts in the buffer, and the sums are what these leave of 1; the other rows are clear
pub record Parts (m k : ℕ) (px l u a b sums out : List ℕ) (i : ℕ) : Type 0 where
  pub rows : (free : List ℕ) → Indexed k (length px) free a b → (j : ℕ) → j < i → part (length px) j out ≡ table (symbol_at k free (part_at m px l u a b j)) (length px)
  pub left : (s : ℕ) → k ≤ s → s < length px → get_or sums s 0 ≡ left_at m px l u a b i s
  pub rest : (j : ℕ) → i ≤ j → j < k → part (length px) j out ≡ replicate (length px) 0

-- each of the k rows has been completed
abbrev pub AllCompleted : ℕ → List ℕ → List ℕ → List ℕ → List ℕ → List ℕ → List ℕ → List ℕ → Type 0
AllCompleted k J px a b sums out out' = (i : ℕ) → i < k → Completed i k (get_or J i 0) px a b sums (part (length px) i out) (part (length px) i out')
