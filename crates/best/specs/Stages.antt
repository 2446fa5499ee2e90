-- The outcome of specs/Outcomes.antt from a later test on: of a code that passed its test, and of lists that have the right lengths.
use Rattle.std.specs.Prelude.{ℕ, List}
use Rattle.basics.specs.declared.Refusal.TheVariants.{Budget}
use Rattle.basics.specs.Outcome.{Outcome, accepted, check}
use Rattle.codewords.specs.Code.{Code, n}
use Rattle.solving.specs.Tests.{cleared, check_length, check_room, check_symbols}
use Rattle.patterns.specs.Best.{best}
use Rattle.best.specs.Outcomes.{Lent, is_budget, figures_of}

module _ (code : Code) (received trusts : List ℕ) (budget : ℕ) where
  abbrev pub best_sized : List ℕ → Outcome Lent
  best_sized work =
      check_symbols code received
      (check (is_budget budget) Budget
      (accepted (best code received trusts budget, figures_of code received trusts budget, cleared work)))

  abbrev pub best_tested : List ℕ → List ℕ → List ℕ → Outcome Lent
  best_tested out figures work =
      check_length received (n code) (check_length trusts (n code) (check_length out (n code) (check_length figures 3 (check_room work (best_sized work)))))
