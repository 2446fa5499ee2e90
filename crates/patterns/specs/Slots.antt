-- The costs of all multiples of a row at once: a place where the row is not zero is put right by one multiple only, so one pass over the places gathers
-- what they cost for every multiple, and for each multiple the trust of the places that it puts right.
use Rattle.std.specs.Prelude.{ℕ, ◌+◌, cond, List, [], ◌∷◌, eqb}
use Rattle.field.specs.Field.{Arithmetic}

module _ (F : Arithmetic) where
  infixl 70 ◌·◌
  open F use {q, ◌·◌, inv}

  -- what a place costs for every multiple, by its trust t, the row's symbol r and the difference x of the word and what was received
  abbrev pub always : ℕ → ℕ → ℕ → ℕ
  always t r x = cond (eqb r 0) (cond (eqb 0 x) 0 t) t

  -- what it saves for the multiple e, if that is the one that puts it right
  abbrev pub saves : ℕ → ℕ → ℕ → ℕ → ℕ
  saves e t r x = cond (eqb r 0) 0 (cond (eqb (x · inv r) e) t 0)

  -- the totals over all places
  abbrev pub fixed : List ℕ → List ℕ → List ℕ → ℕ
  fixed [] rs xs = 0
  fixed (t ∷ ts) [] xs = 0
  fixed (t ∷ ts) (r ∷ rs) [] = 0
  fixed (t ∷ ts) (r ∷ rs) (x ∷ xs) = always t r x + fixed ts rs xs

  abbrev pub saved : ℕ → List ℕ → List ℕ → List ℕ → ℕ
  saved e [] rs xs = 0
  saved e (t ∷ ts) [] xs = 0
  saved e (t ∷ ts) (r ∷ rs) [] = 0
  saved e (t ∷ ts) (r ∷ rs) (x ∷ xs) = saves e t r x + saved e ts rs xs
