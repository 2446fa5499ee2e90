-- What is in hand between the stages of Correct.
use Rattle.basics.specs.Outcome.{Done}
use Rattle.std.specs.Prelude.{ℕ, ◌-◌, ◌/◌, ◌≡◌, true, List, length}
use Rattle.codewords.specs.Code.{Code, code_answer, n}
use Rattle.codewords.specs.Codewords.{symbols}
use Rattle.decoding.specs.Rows.{top, kept_places}
use Rattle.locator.specs.declared.turn.Layout.{Layout}
use Rattle.correction.specs.Kept.{kept_in}

-- what is given once the tests have passed: e keeps the places of the definition
pub record Located (code : Code) (r e : List ℕ) : Type 0 where
  pub done : code_answer code ≡ Done
  pub are_symbols : symbols code r ≡ true
  pub symbols_size : length r ≡ n code
  pub kept_size : length e ≡ n code
  pub kept_is : kept_in e ≡ kept_places code r

-- the layout of the rows for n points
pub record LaidFor (n k : ℕ) (shape : Layout) : Type 0 where
  pub k_is : shape.k ≡ k
  pub t_is : shape.t ≡ (n - k - 2) / 2
  pub top_is : shape.top ≡ top k shape.t
