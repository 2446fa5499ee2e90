-- What the working space holds of the rows at picked places J: arrays of n bytes one behind the other, namely the first coordinates with those of the
-- picked places first, L and U by their values, two factors a row with the indices of the free points behind them, what all rows leave of 1, and the
-- difference of the received word and the codeword that agrees with it at the picked places.
use Rattle.basics.specs.Outcome.{Done}
use Rattle.std.specs.Prelude.{ℕ, ◌*◌, ◌-◌, ◌<◌, ◌≤◌, ◌≡◌, true, List, length, get_or, set, drop}
use Rattle.basics.specs.Lists.{table}
use Rattle.codewords.specs.Code.{Code, n, code_answer}
use Rattle.codewords.specs.Codewords.{index, symbols, row}
use Rattle.generator.specs.Rows.{left_at, entry_at, symbol_at, Indexed}
use Rattle.matrix.specs.Given.{frees, row_at, part}
use Rattle.patterns.specs.Patterns.{none}
use Rattle.patterns.specs.Best.{changed, picked, word_of}

-- what the rows are made of: each row's entries are the row of the matrix
pub record Factored (code : Code) (J px l u a b : List ℕ) : Type 0 where
  pub points : length px ≡ n code
  pub lows : length l ≡ n code
  pub highs : length u ≡ n code
  pub firsts : length a ≡ n code
  pub seconds : length b ≡ n code
  pub rows : (j : ℕ) → j < code.k → row_at code.field code.k J px l u a b j ≡ row code J (index j)

-- the same with the indices of the free points behind the factors
pub record Ready (code : Code) (J px l u a b : List ℕ) : Type 0 where
  pub factored : Factored code J px l u a b
  pub indexed : Indexed code.k (length px) (frees J px) a b

module _ (code : Code) (work : List ℕ) where
  abbrev pub array : ℕ → List ℕ
  array i = part (n code) i work

-- behind its seven arrays of n bytes the working space is as it was
abbrev pub Spared : ℕ → List ℕ → List ℕ → Type 0
Spared n work work' = drop (7 * n) work' ≡ drop (7 * n) work

-- the array of index i has been put into the working space, and the others are as they were
pub record Put (n i : ℕ) (from work work' : List ℕ) : Type 0 where
  pub here : part n i work' ≡ from
  pub others : (j : ℕ) → (j ≡ i → ⊥) → part n j work' ≡ part n j work
  pub spared : Spared n work work'

-- the four arrays behind the first one
pub record PutFour (n : ℕ) (l u a b work work' : List ℕ) : Type 0 where
  pub points : part n 0 work' ≡ part n 0 work
  pub lows : part n 1 work' ≡ l
  pub highs : part n 2 work' ≡ u
  pub firsts : part n 3 work' ≡ a
  pub seconds : part n 4 work' ≡ b
  pub spared : Spared n work work'

-- the first five arrays
pub record Stored (code : Code) (J work : List ℕ) : Type 0 where
  pub room : 7 * n code ≤ length work
  pub ready : Ready code J (array code work 0) (array code work 1) (array code work 2) (array code work 3) (array code work 4)

-- what k rows leave of 1 at the free points
abbrev pub Left : (m k : ℕ) (px l u a b sums : List ℕ) → Type 0
Left m k px l u a b sums = (s : ℕ) → k ≤ s → s < length px → get_or sums s 0 ≡ left_at m px l u a b k s

abbrev pub LeftIn : Code → List ℕ → List ℕ → Type 0
LeftIn code work sums = Left code.field code.k (array code work 0) (array code work 1) (array code work 2) (array code work 3) (array code work 4) sums

-- the row with index j has been written
abbrev pub Writes : (m k j place : ℕ) (px l u a b row : List ℕ) → Type 0
Writes m k j place px l u a b row = (free : List ℕ) → Indexed k (length px) free a b → row ≡ set (table (symbol_at k free (entry_at m px l u a b k j)) (length px)) (place - 1) 1

-- and the sixth
pub record Summed (code : Code) (J work : List ℕ) : Type 0 where
  pub stored : Stored code J work
  pub left : LeftIn code work (array code work 5)

-- an accepted code, a received word, trusts, and the places that are picked by them
pub record Given (code : Code) (received trusts J : List ℕ) : Type 0 where
  pub done : code_answer code ≡ Done
  pub small : symbols code received ≡ true
  pub size : length received ≡ n code
  pub trusted : length trusts ≡ n code
  pub is_picked : J ≡ picked code trusts

-- and the seventh array: all that the tries need
pub record Prepared (code : Code) (received trusts J work : List ℕ) : Type 0 where
  pub given : Given code received trusts J
  pub summed : Summed code J work
  pub base : array code work 6 ≡ changed received (word_of code received trusts (none code.k))
