-- By the law of a place, from what the callees make of the arrays.
use Prim.Native.Nat.{ℕ, suc, ◌+◌}
use mathlib.Core.List.{List}
use native.Mathlib.Numerals.{add-one}
use Rattle.locator.specs.Arrays.{Heads, Multiples, DensTurn}
use Rattle.locator.proofs.Turning.{turns}
use Rattle.locator.proofs.turn.turn.Goals as goal

-- their number is one more than the radius
one_more : (m α t : ℕ) {ts : Multiples} {hs rs : Heads} {p a b c p' a' b' c' : List ℕ} → DensTurn m α (t + 1) ts hs p a b c rs p' a' b' c' → DensTurn m α (suc t) ts hs p a b c rs p' a' b' c'
one_more m α t d = rw (← add-one t) d

pub returns : goal.returns
returns c =
    turns c.args.field.now.tables.field c.requires.turn_room c.cancelling-ts.ensures c.turn_defects.ensures.0 c.turn_defects.ensures.1 c.turn_defects.ensures.2 c.turn_defects.ensures.3 (one_more c.args.field.now.number _ c.args.shape.t c.turn_dens.ensures)
