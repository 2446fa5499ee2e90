-- What Best has in hand once its tests have passed.
use Rattle.basics.specs.Outcome.{Done}
use Rattle.std.specs.Prelude.{ℕ, ◌≡◌, true, List, length}
use Rattle.codewords.specs.Code.{Code, n, code_answer}
use Rattle.codewords.specs.Codewords.{symbols}

-- an accepted code, a received word and trusts
pub record Given (code : Code) (received trusts : List ℕ) : Type 0 where
  pub done : code_answer code ≡ Done
  pub small : symbols code received ≡ true
  pub size : length received ≡ n code
  pub trusted : length trusts ≡ n code
