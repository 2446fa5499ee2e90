-- How many places pass a test, and how many places words differ in.
use Prim.Native.Nat.{ℕ, zero, suc, ◌+◌, ◌<◌, ◌≤◌}
use mathlib.Core.Path.{◌≡◌, refl, ◌∙◌, ap}
use mathlib.Core.Bool.{Bool, true, false, not, cond, ◌&&◌}
use mathlib.Core.List.{List, [], ◌∷◌}
use native.Mathlib.Omega.{arith}
use lib.Dec.{eqb}
use lib.ListN.{length, get_or}
use Rattle.basics.specs.Lists.{filter, table}
use Rattle.basics.proofs.Lists.{table_front}
use Rattle.decoding.specs.Near.{distance}

module _ {A : Type 0} where
  -- those that pass and those that do not
  pub both_counts : (p : A → Bool) (l : List A) → length (filter p l) + length (filter (λ a. not (p a)) l) ≡ length l
  both_counts p [] = refl
  both_counts p (a ∷ l) = by (p a) (both_counts p l)
    where
      by : (b : Bool) → length (filter p l) + length (filter (λ a. not (p a)) l) ≡ length l
          → length (cond b (a ∷ filter p l) (filter p l)) + length (cond (not b) (a ∷ filter (λ a. not (p a)) l) (filter (λ a. not (p a)) l)) ≡ suc (length l)
      by true e = omega arith
      by false e = omega arith

  -- those that pass two tests
  pub both_pass : (p r : A → Bool) (l : List A)
      → length l ≤ length (filter (λ a. p a && r a) l) + length (filter (λ a. not (p a)) l) + length (filter (λ a. not (r a)) l)
  both_pass p r [] = omega arith
  both_pass p r (a ∷ l) = by (p a) (r a) (both_pass p r l)
    where
      x : List A
      x = filter (λ a. p a && r a) l

      y : List A
      y = filter (λ a. not (p a)) l

      z : List A
      z = filter (λ a. not (r a)) l

      by : (b c : Bool) → length l ≤ length x + length y + length z → suc (length l) ≤ length (cond (b && c) (a ∷ x) x) + length (cond (not b) (a ∷ y) y) + length (cond (not c) (a ∷ z) z)
      by true true h = omega arith
      by true false h = omega arith
      by false true h = omega arith
      by false false h = omega arith

-- the distance counts the places where words differ
pub distance_counts : (p : ℕ → Bool) (f : ℕ → ℕ) (n : ℕ) (w v : List ℕ) → length w ≡ n → length v ≡ n
    → ((i : ℕ) → i < n → p (f i) ≡ not (eqb (get_or w i 0) (get_or v i 0))) → length (filter p (table f n)) ≡ distance w v
unfolding distance
distance_counts p f zero [] v g h e = refl
distance_counts p f zero (a ∷ w) v g h e = absurd (omega arith)
distance_counts p f (suc n) [] v g h e = absurd (omega arith)
distance_counts p f (suc n) (a ∷ w) [] g h e = absurd (omega arith)
distance_counts p f (suc n) (a ∷ w) (b ∷ v) g h e =
    ap (λ l. length (filter p l)) (table_front f n)
    ∙ by (eqb a b) (p (f 0)) (e 0 (omega arith)) (distance_counts p (λ i. f (suc i)) n w v (omega arith) (omega arith) (λ i k. e (suc i) (omega arith)))
  where
    by : (c d : Bool) → d ≡ not c → length (filter p (table (λ i. f (suc i)) n)) ≡ distance w v
        → length (cond d (f 0 ∷ filter p (table (λ i. f (suc i)) n)) (filter p (table (λ i. f (suc i)) n))) ≡ cond c (distance w v) (suc (distance w v))
    by true d s r = rw s r
    by false d s r = rw s (ap suc r)

-- and so is no more than there are places
pub distance_most : (w v : List ℕ) → distance w v ≤ length v
unfolding distance
distance_most [] v = omega arith
distance_most (a ∷ w) [] = omega arith
distance_most (a ∷ w) (b ∷ v) = by (eqb a b) (distance_most w v)
  where
    by : (c : Bool) → distance w v ≤ length v → cond c (distance w v) (suc (distance w v)) ≤ suc (length v)
    by true h = omega arith
    by false h = omega arith
