-- The cheapest of what there is and the first multiples of a row: its cost and the multiple, or 0 where none of them is cheaper.
use Rattle.std.specs.Prelude.{ℕ, suc, ◌+◌, ◌-◌, ◌<◌, ◌≤◌, ◌≡◌, List, length, get_or}
use Rattle.basics.specs.Lists.{table}
use Rattle.field.specs.Field.{Arithmetic}
use Rattle.field.specs.Galois.{size}
use Rattle.elliptic.specs.Pair.{add_scaled}
use Rattle.patterns.specs.Cheapest.{weigh, cheapest}
use Rattle.tries.specs.Gathered.{Below, multiple_of}

-- a cost and the multiple that it is of
abbrev pub Priced : Type 0
Priced = ℕ × ℕ

abbrev pub price_of : Priced → ℕ
price_of p = p.0

-- what the slots say of count multiples from that of slot `from` on
abbrev pub slot_tries : ℕ → List ℕ → ℕ → ℕ → ℕ → List Priced
slot_tries fixed slots half from count = table (λ i. (fixed - get_or slots (from + i) 0, multiple_of half (from + i))) count

-- count multiples of a row from that of slot `from` on, added to a difference
abbrev pub half_tries : Arithmetic → List ℕ → List ℕ → List ℕ → ℕ → ℕ → ℕ → List Priced
half_tries F trusts row x half from count = table (λ i. let e = multiple_of half (from + i) in (weigh trusts (add_scaled F e row x), e)) count

-- the multiples 1 to count of a row, added to a difference
abbrev pub multiple_tries : Arithmetic → List ℕ → List ℕ → List ℕ → ℕ → List Priced
multiple_tries F trusts row x count = table (λ i. (weigh trusts (add_scaled F (suc i) row x), suc i)) count

-- the lists that a pass goes over
pub record Rows (m : ℕ) (trusts difference late row : List ℕ) : Type 0 where
  pub differences : length difference ≡ length trusts
  pub lates : length late ≡ length trusts
  pub rows : length row ≡ length trusts
  pub most : length trusts ≤ 288
  pub difference_below : Below m difference
  pub late_below : Below m late
  pub row_below : Below m row

-- slots of multiples of the field, without 0
pub record InHalf (m half from to : ℕ) : Type 0 where
  pub ordered : from ≤ to
  pub most : to ≤ 128
  pub is_half : half ≤ 1
  pub some : 0 < multiple_of half from
  pub below : multiple_of half to ≤ size m

abbrev pub best_multiple : Arithmetic → List ℕ → List ℕ → List ℕ → ℕ → ℕ → Priced
best_multiple F trusts row x cost count = cheapest price_of (cost, 0) (multiple_tries F trusts row x count)
