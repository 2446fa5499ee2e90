-- The values that a loop over the coordinates writes are the codeword of the function.
use Rattle.basics.specs.Outcome.{Done}
use Prim.Native.Nat.{ℕ}
use mathlib.Core.Bool.{true}
use mathlib.Core.Path.{◌≡◌, sym, ◌∙◌, ap}
use mathlib.Core.List.{List}
use borrow.Author.Tests.{eq-eqb}
use lib.ListN.{length}
use Rattle.basics.specs.Lists.{table}
use Rattle.basics.proofs.Lists.{both_true}
use Rattle.codewords.specs.Code.{Code, n, code_answer}
use Rattle.codewords.specs.Codewords.{symbols, message, word}
use Rattle.codewords.proofs.Accepted.{accepted_done}
use Rattle.codewords.proofs.Computed.{computed}
use Rattle.codewords.proofs.Coordinates.{values_table}
use Rattle.engine.specs.Places.{value_at}

pub plain_word : (code : Code) → code_answer code ≡ Done → (f : List ℕ) → length f ≡ code.k → symbols code f ≡ true → {room : ℕ} → room ≡ n code
    → table (value_at code.field code.xs code.ys f) room ≡ word code f
unfolding message
plain_word code h f size below e =
    ap (table (value_at code.field code.xs code.ys f)) e ∙ sym (values_table code (accepted_done code h).lengths f)
    ∙ sym ((computed code h).word_by f (both_true _ _ below (eq-eqb _ _ size)))
