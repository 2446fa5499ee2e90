-- Which of the two points over X has the greater Y, as a number.
use Prim.Native.Nat.{ℕ, ◌+◌, ◌*◌, ◌≤◌}
use mathlib.Core.Path.{◌≡◌, refl, ◌∙◌, ap, ap₂}
use mathlib.Core.Bool.{Bool, true, false, cond}
use native.Mathlib.Omega.{arith}
use lib.Dec.{ltb}
use mir.Val.{bool_byte}
use Rattle.elliptic.specs.declared.Point.{Point}
use Rattle.code.specs.Slots.{slot}
use Rattle.code.proofs.test.slot.Goals as goal

bit : (b : Bool) → (bool_byte b ≡ cond b 1 0) × (bool_byte b ≤ 1)
bit true = (refl, omega arith)
bit false = (refl, omega arith)

pub returns : goal.returns
unfolding slot
returns c =
    let greater = bit (ltb c.opposite-other.result.y c.args.p.y) in (
      ap₂ (λ a b. a * 2 + b) c.from-twice.ensures (c.from.ensures ∙ greater.0 ∙ ap (λ (z : ℕ). cond (ltb z c.args.p.y) 1 0) (ap (λ (Q : Point). Q.y) c.opposite-other.ensures)),
      omega (arith, c.from-twice.ensures, c.from.ensures, greater.1),
    )
