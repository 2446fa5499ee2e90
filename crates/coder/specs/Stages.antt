-- The outcomes of specs/Outcomes.antt from a later test on: of a code that passed its test, and of lists that passed theirs.
use Rattle.std.specs.Prelude.{ℕ, ◌+◌, ◌*◌, not, ◌&&◌, List, eqb, leb, length}
use Rattle.basics.specs.declared.Refusal.TheVariants.{Length, Dependent, TooFew, NoCodeword, Independent}
use Rattle.basics.specs.Outcome.{Outcome, accepted, check}
use Rattle.codewords.specs.Code.{Code, n}
use Rattle.codewords.specs.Codewords.{codeword, recovered, agreed, systematic_function, systematic_word, matrix, dependent, usable, relation, pick}
use Rattle.solving.specs.Tests.{Lent, cleared, check_length, check_room, check_places, check_symbols, check_posed}
use Rattle.coder.specs.Outcomes.{joined}

-- the place with an index in the list of all
abbrev pub place_at : ℕ → ℕ
place_at i = i + 1

module _ (code : Code) where
  -- Relation
  abbrev pub relation_run : List ℕ → List ℕ → Outcome Lent
  relation_run J work = check (dependent code J) Independent (accepted (relation code J, cleared work))

  abbrev pub relation_placed : List ℕ → List ℕ → Outcome Lent
  relation_placed J work = check_places code J (relation_run J work)

  abbrev pub relation_tested : List ℕ → List ℕ → List ℕ → Outcome Lent
  relation_tested J out work = check_length J code.k (check_length out code.k (check_room work (relation_placed J work)))

  -- Matrix
  abbrev pub matrix_run : List ℕ → List ℕ → Outcome Lent
  matrix_run J work = check (usable code J) Dependent (accepted (joined (matrix code J), cleared work))

  abbrev pub matrix_placed : List ℕ → List ℕ → Outcome Lent
  matrix_placed J work = check_places code J (matrix_run J work)

  abbrev pub matrix_tested : List ℕ → List ℕ → List ℕ → Outcome Lent
  matrix_tested J out work = check_length J code.k (check_length out (code.k * n code) (check_room work (matrix_placed J work)))

  -- Pick
  abbrev pub pick_run : List ℕ → List ℕ → Outcome Lent
  pick_run ranked work =
      check (leb code.k (length ranked)) TooFew
      (check (not (eqb (length ranked) code.k && dependent code ranked)) Dependent
      (accepted (pick code ranked, cleared work)))

  abbrev pub pick_placed : List ℕ → List ℕ → Outcome Lent
  pick_placed ranked work = check_places code ranked (pick_run ranked work)

  abbrev pub pick_tested : List ℕ → List ℕ → List ℕ → Outcome Lent
  pick_tested ranked out work =
      check (leb (length ranked) (n code)) Length (check_length out code.k (check_room work (pick_placed ranked work)))

  -- Systematic function and Systematic word: with k places 12 stands for dependent ones
  abbrev pub function_tested : List ℕ → List ℕ → List ℕ → List ℕ → Outcome Lent
  function_tested J msg out work =
      check_length J code.k (check_length msg code.k (check_length out code.k (check_room work
      (check_places code J (check_symbols code msg
      (check (usable code J) Dependent
      (accepted (systematic_function code J msg, cleared work))))))))

  abbrev pub function_run : List ℕ → List ℕ → List ℕ → Outcome Lent
  function_run J msg work = check_posed code J msg (accepted (systematic_function code J msg, cleared work))

  abbrev pub word_tested : List ℕ → List ℕ → List ℕ → List ℕ → Outcome Lent
  word_tested J msg out work =
      check_length J code.k (check_length msg code.k (check_length out (n code) (check_room work
      (check_places code J (check_symbols code msg
      (check (usable code J) Dependent
      (accepted (systematic_word code J msg, cleared work))))))))

  abbrev pub word_run : List ℕ → List ℕ → List ℕ → Outcome Lent
  word_run J msg work = check_posed code J msg (accepted (systematic_word code J msg, cleared work))

  -- Rebuild
  abbrev pub rebuild_run : List ℕ → List ℕ → List ℕ → Outcome Lent
  rebuild_run J us work = check_posed code J us (check (agreed code J us) NoCodeword (accepted (systematic_word code J us, cleared work)))

  abbrev pub rebuild_tested : List ℕ → List ℕ → List ℕ → List ℕ → Outcome Lent
  rebuild_tested J us out work =
      check (leb (length J) (n code)) Length (check_length us (length J) (check_length out (n code) (check_room work (rebuild_run J us work))))

  -- Recover
  abbrev pub recover_run : List ℕ → List ℕ → Outcome Lent
  recover_run w work = check_symbols code w (check (codeword code w) NoCodeword (accepted (recovered code w, cleared work)))

  abbrev pub recover_tested : List ℕ → List ℕ → List ℕ → Outcome Lent
  recover_tested w out work = check_length w (n code) (check_length out code.k (check_room work (recover_run w work)))
