-- The lent part becomes zero, and the rest stands behind it.
use Prim.Native.Nat.{ℕ, ◌≤◌}
use mathlib.Core.Path.{◌≡◌, sym, ◌∙◌, ap}
use mathlib.Core.Bool.{true}
use mathlib.Core.List.{List, ◌++◌}
use native.Mathlib.Omega.{arith}
use borrow.Author.Tests.{leb-true}
use lib.Dec.{leb}
use lib.ListN.{length, take, drop, replicate}
use lib.Seq.{length-take-le}
use Rattle.solving.specs.Tests.{room}
use Rattle.solving.proofs.work.clear_room.Goals as goal

-- a part of at most the room has the length that it says
part : {n : ℕ} (work : List ℕ) → room ≤ length work → leb n room ≡ true → n ≡ length (take n work)
part {n} work h e = sym (length-take-le n work (omega (arith, leb-true n room e)))

pub returns : goal.returns
returns c =
    ap (λ l. l ++ drop room c.args.work.now) (c.clear.ensures ∙ ap (λ n. replicate n 0) (length-take-le room c.args.work.now c.requires))
