-- What the tests of lists say.
use Rattle.std.specs.Prelude.{ℕ, Bool, ◌&&◌, leb, ltb}

-- p is a place of n
abbrev pub is_place : ℕ → ℕ → Bool
is_place n p = leb 1 p && leb p n

abbrev pub is_below : ℕ → ℕ → Bool
is_below q u = ltb u q
