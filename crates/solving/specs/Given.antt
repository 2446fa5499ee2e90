-- What an operation has in hand once its tests have passed, and what it solves for.
use Rattle.basics.specs.Outcome.{Answer, Done}
use Rattle.std.specs.Prelude.{ℕ, ◌≤◌, ◌≡◌, Bool, true, not, ◌&&◌, List, map, eqb, length, get_or}
use Rattle.std.specs.Int.Bits.{bit_xor}
use Rattle.basics.specs.Lists.{Holds, table}
use Rattle.field.specs.Galois.{product, inverse}
use Rattle.elliptic.specs.Pair.{evaluate}
use Rattle.codewords.specs.Code.{Code, arithmetic, points, code_answer}
use Rattle.codewords.specs.Codewords.{all_places, places_differ, symbols, dependent, usable}
use Rattle.codewords.specs.Computed.{solution}
use Rattle.values.specs.Values.{one}
use Rattle.arrangement.specs.Arranged.{Arranged}
use Rattle.solving.specs.Tests.{posed_answer}

-- different places of an accepted code
pub record Placed (code : Code) (J : List ℕ) : Type 0 where
  pub done : code_answer code ≡ Done
  pub are_all_places : all_places code J ≡ true
  pub differ : places_differ code J ≡ true

-- a choice that works: k of them that are not dependent
pub record Works (code : Code) (J : List ℕ) : Type 0 where
  pub placed : Placed code J
  pub full : length J ≡ code.k
  pub works : usable code J ≡ true

-- k of them or more, with their symbols
pub record Posed (code : Code) (J us : List ℕ) : Type 0 where
  pub placed : Placed code J
  pub are_symbols : symbols code us ≡ true
  pub lengths : length us ≡ length J
  pub at_least : code.k ≤ length J

-- the points with those at the places first, and L = 1 and U = Y by their values there
pub record Laid (code : Code) (J px l u : List ℕ) : Type 0 where
  pub firsts : Arranged code.xs J (length J) px
  pub seconds : Arranged code.ys J (length J) u
  pub ones : l ≡ table one (length u)

-- the multiple of l that f gains to be v at the point with index j, by their values
abbrev pub missing : ℕ → ℕ → ℕ → List ℕ → List ℕ → ℕ
missing m j v l f = product m (bit_xor v (get_or f j 0)) (inverse m (get_or l j 0))

-- whether there is something to solve for, and then it is where the claim says
pub record Solving (code : Code) (J : List ℕ) (claim : Type 0) (r : Bool) : Type 0 where
  pub free : r ≡ not (eqb (length J) code.k && dependent code J)
  pub holds : r ≡ true → claim

-- the answer of the tests up to number 12, and the same where it is Done
pub record Prepared (code : Code) (J us : List ℕ) (claim : Type 0) (r : Answer) : Type 0 where
  pub answers : r ≡ posed_answer code J us
  pub holds : r ≡ Done → claim

module _ (code : Code) (J us : List ℕ) where
  -- f begins with the coefficients of the function
  abbrev pub HoldsFunction : List ℕ → Type 0
  HoldsFunction f = Holds f code.k (solution code J us)

  -- the values of the function at all points
  abbrev pub solved_word : List ℕ
  solved_word = map (evaluate (arithmetic code) (solution code J us)) (points code)
