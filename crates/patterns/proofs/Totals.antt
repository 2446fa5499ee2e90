-- A word's cost is a total over its places, and different places have together no more than all, so it costs at least what it costs at some of them.
use Prim.Native.Nat.{ℕ, suc, ◌+◌, ◌-◌, ◌≤◌}
use mathlib.Core.Path.{◌≡◌, refl, sym, ◌∙◌, ap, ap₂}
use mathlib.Core.Bool.{cond}
use mathlib.Core.List.{List, [], ◌∷◌}
use native.Mathlib.Omega.{arith}
use lib.Dec.{eqb}
use lib.ListN.{length, get_or}
use Rattle.basics.specs.Lists.{table, sum_over}
use Rattle.basics.proofs.Lists.{map_table, table_as, table_get}
use Rattle.elliptic.proofs.Points.{All}
use Rattle.codewords.specs.Codewords.{place, symbol_at}
use Rattle.codewords.proofs.Tests.{in_all}
use Rattle.codewords.proofs.Counting.{Unique, sum_fits}
use Rattle.patterns.specs.Cheapest.{differing}
use Rattle.patterns.specs.Best.{entries}
use Rattle.patterns.proofs.Each.{in_counted}

-- what a place adds to the cost
abbrev share : List ℕ → List ℕ → List ℕ → ℕ → ℕ
share trusts v w p = cond (eqb (symbol_at v (place p)) (symbol_at w (place p))) 0 (symbol_at trusts (place p))

differing_entries : (trusts v w J : List ℕ) → differing (entries trusts J) (entries v J) (entries w J) ≡ sum_over (share trusts v w) J
unfolding differing entries
differing_entries trusts v w [] = refl
differing_entries trusts v w (p ∷ J) = ap (λ n. share trusts v w p + n) (differing_entries trusts v w J)

-- all places of n
abbrev are_all_places : ℕ → List ℕ
are_all_places n = table suc n

entries_all : (l : List ℕ) → entries l (are_all_places (length l)) ≡ l
unfolding entries symbol_at
entries_all l = map_table (λ p. get_or l (p - 1) 0) suc (length l) ∙ table_as _ (λ i. get_or l i 0) (length l) (λ i h. ap (λ j. get_or l j 0) (omega arith)) ∙ table_get l 0

-- THEOREM: at different places two words differ by no more than in all
pub differing_some : (n : ℕ) (trusts v w J : List ℕ) → length trusts ≡ n → length v ≡ n → length w ≡ n → Unique J → All (λ p. (1 ≤ p) × (p ≤ n)) J
    → differing (entries trusts J) (entries v J) (entries w J) ≤ differing trusts v w
differing_some n trusts v w J t h k u s =
    let all : differing trusts v w ≡ sum_over (share trusts v w) (are_all_places n) = whole in
    omega (arith, differing_entries trusts v w J, all, sum_fits (share trusts v w) u (λ p i. let (a, b) = in_all i s in in_counted n p a b))
  where
    whole : differing trusts v w ≡ sum_over (share trusts v w) (are_all_places n)
    whole =
        sym (ap₂ (λ a b. differing a b w) (by trusts t) (by v h)) ∙ sym (ap (λ c. differing (entries trusts (are_all_places n)) (entries v (are_all_places n)) c) (by w k))
        ∙ differing_entries trusts v w (are_all_places n)
      where
        by : (l : List ℕ) → length l ≡ n → entries l (are_all_places n) ≡ l
        by l e = ap (λ m. entries l (are_all_places m)) (sym e) ∙ entries_all l
