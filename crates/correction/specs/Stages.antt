-- The outcome of specs/Outcomes.antt from a later test on: of a code that passed its test, and of symbols that passed theirs.
use Rattle.std.specs.Prelude.{ℕ, List}
use Rattle.basics.specs.declared.Refusal.TheVariants.{TooFar}
use Rattle.basics.specs.Outcome.{Outcome, counted, check}
use Rattle.codewords.specs.Code.{Code, n}
use Rattle.solving.specs.Tests.{Lent, cleared, check_length, check_room, check_symbols}
use Rattle.decoding.specs.Near.{distance, correctable, corrected}

module _ (code : Code) where
  abbrev pub correct_run : List ℕ → List ℕ → Outcome Lent
  correct_run r work = check (correctable code r) TooFar (counted (distance (corrected code r) r) (corrected code r, cleared work))

  abbrev pub correct_tested : List ℕ → List ℕ → List ℕ → Outcome Lent
  correct_tested r out work = check_length r (n code) (check_length out (n code) (check_room work (check_symbols code r (correct_run r work))))
