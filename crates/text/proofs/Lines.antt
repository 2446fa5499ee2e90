-- A line, part by part.
use Prim.{tt}
use Prim.Native.Nat.{ℕ}
use mathlib.Core.Bool.{true, false}
use mathlib.Core.Path.{◌≡◌}
use mathlib.Core.List.{List}
use borrow.Author.Tests.{eq-eqb, ne_eqb}
use lib.ListN.{length, drop}
use Rattle.text.specs.Text.{line_end}
use Rattle.text.specs.Reading.{bad, got, then, is_next, stripped, numbers, line, exactly}

module _ (key : List ℕ) (most : ℕ) (s : List ℕ) where
  pub no_key : stripped key s ≡ bad → bad ≡ line key most s
  unfolding line then
  no_key e = rw e

  module _ (t : List ℕ) (k : stripped key s ≡ got tt t) where
    pub no_list : numbers most t ≡ bad → bad ≡ line key most s
    unfolding line then
    no_list e = rw (k, e)

    module _ (l u : List ℕ) (e : numbers most t ≡ got l u) where
      pub no_end : is_next line_end u ≡ false → bad ≡ line key most s
      unfolding line then
      no_end n = rw (k, e, n)

      pub whole_line : is_next line_end u ≡ true → got l (drop 1 u) ≡ line key most s
      unfolding line then
      whole_line n = rw (k, e, n)

  -- ---- a line of exactly so many numbers

  pub no_line : line key most s ≡ bad → bad ≡ exactly key most s
  unfolding exactly then
  no_line e = rw e

  module _ (l t : List ℕ) (e : line key most s ≡ got l t) where
    pub other_count : (length l ≡ most → ⊥) → bad ≡ exactly key most s
    unfolding exactly then
    other_count n = rw (e, ne_eqb (length l) most n)

    pub right_count_lem : length l ≡ most → got l t ≡ exactly key most s
    unfolding exactly then
    right_count_lem n = rw (e, eq-eqb (length l) most n)
