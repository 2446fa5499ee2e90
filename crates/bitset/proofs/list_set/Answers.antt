use Prim.Native.Nat.{suc, ◌-◌}
use mathlib.Core.Path.{◌≡◌, refl}
use native.Mathlib.Numerals.{add-one}
use native.Mathlib.Omega.{arith}
use lib.Bits.{and_le_r}
use lib.Count.{ones}
use Rattle.basics.specs.SetBits.{clear_lowest}
use Rattle.basics.proofs.SetBits.{ones_cleared}
use Rattle.bitset.proofs.Places.{places_lowest, places_none}
use Rattle.bitset.proofs.list_set.Goals as goal

one_fewer : (c : goal.In-loop-rest) → ones c.loop-rest.rest ≡ suc (ones (clear_lowest c.loop-rest.rest))
one_fewer c = ones_cleared 64 c.loop-rest.rest c.loop-rest.invariant.2 c.loop-rest-test.true

pub loop-rest-preserved : goal.loop-rest-preserved
loop-rest-preserved c = (
  rw (add-one c.loop-rest.at) (rw (places_lowest _ c.loop-rest.rest c.loop-rest.invariant.2 c.loop-rest-test.true) at c.loop-rest.invariant.0),
  omega (arith, one_fewer c),
  omega (arith, and_le_r c.loop-rest.rest (c.loop-rest.rest - 1)),
)

pub bounds-out-at : goal.bounds-out-at
bounds-out-at c = omega (arith, one_fewer c)

pub returns : goal.returns
returns c =
    let none : c.loop-rest.rest ≡ 0 = omega arith in
    (refl, rw (none, places_none) at c.loop-rest.invariant.0)
