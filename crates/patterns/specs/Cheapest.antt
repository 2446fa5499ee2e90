-- Costs, the earliest of the cheapest, and the least of a list of numbers.
use Rattle.std.specs.Prelude.{ℕ, ◌+◌, ◌-◌, min, cond, List, [], ◌∷◌, eqb, ltb}

-- "the total trust of places where" two words differ
unfoldable pub differing : List ℕ → List ℕ → List ℕ → ℕ
differing [] v w = 0
differing (t ∷ trusts) [] w = 0
differing (t ∷ trusts) (a ∷ v) [] = 0
differing (t ∷ trusts) (a ∷ v) (b ∷ w) = cond (eqb a b) 0 t + differing trusts v w

-- the total trust of the places that a change changes, which are those where it is not 0
abbrev pub weigh : List ℕ → List ℕ → ℕ
weigh [] c = 0
weigh (t ∷ ts) [] = 0
weigh (t ∷ ts) (d ∷ c) = cond (eqb 0 d) 0 t + weigh ts c

module _ {A : Type 0} (price : A → ℕ) where
  -- the cheaper of two, and of equals the first
  unfoldable pub cheaper : A → A → A
  cheaper a b = cond (ltb (price b) (price a)) b a

  -- the cheapest of a and a list, "the earliest of equals"
  unfoldable pub cheapest : A → List A → A
  cheapest a [] = a
  cheapest a (b ∷ l) = cheapest (cheaper a b) l

-- the least of t and a list
unfoldable pub least : ℕ → List ℕ → ℕ
least t [] = t
least t (u ∷ us) = min t (least u us)

-- "the cost less the least total trust .., and 0 if that is negative or nothing is untried"
unfoldable pub gap_to : ℕ → List ℕ → ℕ
gap_to c [] = 0
gap_to c (t ∷ ts) = c - least t ts
