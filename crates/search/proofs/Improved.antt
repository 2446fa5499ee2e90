-- What is kept after a block of tries where no multiple is better or none is tried: what has been found.
use Prim.Native.Nat.{ℕ, min}
use mathlib.Core.Path.{◌≡◌, refl}
use mathlib.Core.List.{List}
use native.Mathlib.Omega.{arith}
use borrow.Author.Tests.{eq-eqb}
use Rattle.field.specs.Field.{Arithmetic}
use Rattle.patterns.specs.Cheapest.{cheapest}
use Rattle.tries.specs.Multiples.{Priced, best_multiple}
use Rattle.search.specs.declared.block.Found.{Found}
use Rattle.search.specs.Found.{improved}

module _ (f : Found) (b : Priced) (late d early : ℕ) where
  pub improved_none : b.1 ≡ 0 → f ≡ improved f b late d early
  improved_none h = rw (eq-eqb b.1 0 h) refl

-- none is tried
pub none_tried : (F : Arithmetic) (trusts row x : List ℕ) (cost left most : ℕ) → left ≡ 0 → (best_multiple F trusts row x cost (min left most)).1 ≡ 0
unfolding cheapest
none_tried F trusts row x cost left most h = let e : min left most ≡ 0 = omega (arith, h) in rw e refl
