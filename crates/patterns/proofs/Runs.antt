-- Running through the tries: a list of tries after another, and tries that need not be made.
use Prim.Native.Nat.{ℕ, zero, suc, ◌-◌, ◌<◌, ◌≤◌}
use mathlib.Core.Path.{◌≡◌, refl, sym, ◌∙◌, ap}
use mathlib.Core.Bool.{Bool, true, false, cond}
use mathlib.Core.List.{List, [], ◌∷◌, ◌++◌, map}
use native.Mathlib.Omega.{arith}
use lib.Dec.{ltb}
use lib.ListN.{length, take}
use borrow.Author.Tests.{le-ltb, lt-ltb}
use Rattle.elliptic.proofs.Points.{All, All.nil, All.cons}
use Rattle.patterns.specs.Cheapest.{cheaper, cheapest}

pub take_append : {A : Type 0} (m : ℕ) (l r : List A) → take m (l ++ r) ≡ take m l ++ take (m - length l) r
take_append zero [] r = let e : 0 - 0 ≡ 0 = omega arith in ap (λ m. take m r) (sym e)
take_append (suc m) [] r = let e : suc m - 0 ≡ suc m = omega arith in ap (λ m. take m r) (sym e)
take_append zero (a ∷ l) r = let e : 0 - suc (length l) ≡ 0 = omega arith in ap (λ m. take m r) (sym e)
take_append (suc m) (a ∷ l) r =
    let e : suc m - suc (length l) ≡ m - length l = omega arith in
    ap (λ t. a ∷ t) (take_append m l r) ∙ ap (λ m'. a ∷ (take m l ++ take m' r)) (sym e)

module _ {A : Type 0} (price : A → ℕ) where
  pub cheapest_append : (a : A) (l r : List A) → cheapest price a (l ++ r) ≡ cheapest price (cheapest price a l) r
  unfolding cheapest
  cheapest_append a [] r = refl
  cheapest_append a (b ∷ l) r = cheapest_append (cheaper price a b) l r

  -- a try that is not cheaper changes nothing
  pub keeps : (a b : A) → price a ≤ price b → cheaper price a b ≡ a
  unfolding cheaper
  keeps a b h = ap (λ t. cond t b a) (le-ltb (price b) (price a) h)

  pub takes : (a b : A) → price b < price a → cheaper price a b ≡ b
  unfolding cheaper
  takes a b h = ap (λ t. cond t b a) (lt-ltb (price b) (price a) h)

  -- nor do any number of them
  pub none_cheaper : (a : A) {l : List A} → All (λ b. price a ≤ price b) l → cheapest price a l ≡ a
  unfolding cheapest
  none_cheaper a nil = refl
  none_cheaper a (cons {a = b} {l} h hs) = ap (λ c. cheapest price c l) (keeps a b h) ∙ none_cheaper a hs

-- the cheapest may be sought among what the words are made of
pub cheapest_map : {B C : Type 0} (price : C → ℕ) (give : B → C) (b : B) (l : List B) → cheapest price (give b) (map give l) ≡ give (cheapest (λ b. price (give b)) b l)
unfolding cheapest cheaper
cheapest_map price give b [] = refl
cheapest_map price give b (d ∷ l) =
    ap (λ c. cheapest price c (map give l)) (by (ltb (price (give d)) (price (give b)))) ∙ cheapest_map price give (cheaper (λ b. price (give b)) b d) l
  where
    by : (t : Bool) → cond t (give d) (give b) ≡ give (cond t d b)
    by true = refl
    by false = refl
