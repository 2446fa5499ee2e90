-- Lists: tests of their elements, lists made by a rule, and sums.
use Rattle.std.specs.Prelude.{ℕ, zero, suc, ◌+◌, ◌≤◌, Bool, true, false, cond, not, ◌&&◌, ◌||◌, List, [], ◌∷◌, ◌++◌, ◌≡◌, length, take, drop, eqb}

module _ {A : Type 0} where
  -- every element passes the test
  abbrev pub all : (A → Bool) → List A → Bool
  all p [] = true
  all p (a ∷ l) = p a && all p l

  -- some element passes it
  abbrev pub any : (A → Bool) → List A → Bool
  any p [] = false
  any p (a ∷ l) = p a || any p l

  -- the elements that pass it, in order
  abbrev pub filter : (A → Bool) → List A → List A
  filter p [] = []
  filter p (a ∷ l) = let rest = filter p l in cond (p a) (a ∷ rest) rest

  -- no element stands twice, by a test of sameness
  abbrev pub different : (A → A → Bool) → List A → Bool
  different same [] = true
  different same (a ∷ l) = all (λ b. not (same a b)) l && different same l

  -- f 0, f 1, .., f (n − 1)
  abbrev pub table : (ℕ → A) → ℕ → List A
  table f zero = []
  table f (suc n) = table f n ++ (f n ∷ [])

  -- f of each element, added up
  abbrev pub sum_over : (A → ℕ) → List A → ℕ
  sum_over f [] = 0
  sum_over f (a ∷ l) = f a + sum_over f l

  -- l at the front of what held old, and the rest as it was
  abbrev pub written : List A → List A → List A
  written l old = l ++ drop (length l) old

-- two lists of numbers are the same
abbrev pub same : List ℕ → List ℕ → Bool
same [] [] = true
same [] (b ∷ m) = false
same (a ∷ l) [] = false
same (a ∷ l) (b ∷ m) = eqb a b && same l m

-- the first n elements of xs are l: an array of which only a part is in use
pub record Holds (xs : List ℕ) (n : ℕ) (l : List ℕ) : Type 0 where
  pub within : n ≤ length xs
  pub first : take n xs ≡ l
