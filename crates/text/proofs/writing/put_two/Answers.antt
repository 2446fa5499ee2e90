-- One digit, and the other.
use Prim.Native.Nat.{◌+◌, ◌/◌, ◌%◌}
use mathlib.Core.Path.{refl}
use mathlib.Core.List.{[], ◌∷◌}
use native.Mathlib.Omega.{arith}
use Rattle.text.proofs.Appending.{leads_start, leads_on, leads_last}
use Rattle.text.proofs.writing.put_two.Goals as goal

pub returns : goal.returns
returns c =
    let a = (48 + c.args.n / 10) ∷ [] in
    let b = (48 + c.args.n % 10) ∷ [] in
    leads_last b [] (leads_on a b (leads_start (omega (arith, c.requires.1))) c.put-next.ensures) refl c.put.ensures
