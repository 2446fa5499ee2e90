-- Document 01's operations over places: each tests the code, then lengths, places and symbols in the order of their numbers, and then works.
-- The lent memory is the output and, for operations marked w, the working space. The tests are those of solving/specs/Tests.antt.
use Rattle.std.specs.Prelude.{ℕ, ◌*◌, not, ◌&&◌, List, [], ◌∷◌, ◌++◌, eqb, leb, length}
use Rattle.basics.specs.declared.Refusal.TheVariants.{Length, Dependent, TooFew, NoCodeword, Independent}
use Rattle.basics.specs.Outcome.{Outcome, accepted, check}
use Rattle.codewords.specs.Code.{Code, n, check_code}
use Rattle.codewords.specs.Codewords.{codeword, recovered, agreed, systematic_function, systematic_word, matrix, dependent, usable, relation, pick}
use Rattle.solving.specs.Tests.{Lent, cleared, check_length, check_room, check_places, check_symbols}

-- the rows of a matrix one after the other
abbrev pub joined : List (List ℕ) → List ℕ
joined [] = []
joined (r ∷ rs) = r ++ joined rs

module _ (code : Code) where
  -- Recover: n symbols to k coefficients
  abbrev pub recover_outcome : List ℕ → List ℕ → List ℕ → Outcome Lent
  recover_outcome w out work =
      check_code code
      (check_length w (n code) (check_length out code.k (check_room work
      (check_symbols code w
      (check (codeword code w) NoCodeword
      (accepted (recovered code w, cleared work)))))))

  -- Systematic function and Systematic word: k places and k message symbols to k coefficients, or to n symbols
  abbrev pub systematic_function_outcome : List ℕ → List ℕ → List ℕ → List ℕ → Outcome Lent
  systematic_function_outcome J msg out work =
      check_code code
      (check_length J code.k (check_length msg code.k (check_length out code.k (check_room work
      (check_places code J (check_symbols code msg
      (check (usable code J) Dependent
      (accepted (systematic_function code J msg, cleared work)))))))))

  abbrev pub systematic_word_outcome : List ℕ → List ℕ → List ℕ → List ℕ → Outcome Lent
  systematic_word_outcome J msg out work =
      check_code code
      (check_length J code.k (check_length msg code.k (check_length out (n code) (check_room work
      (check_places code J (check_symbols code msg
      (check (usable code J) Dependent
      (accepted (systematic_word code J msg, cleared work)))))))))

  -- Matrix: k places to k rows of n symbols, row i in its own part of the buffer
  abbrev pub matrix_outcome : List ℕ → List ℕ → List ℕ → Outcome Lent
  matrix_outcome J out work =
      check_code code
      (check_length J code.k (check_length out (code.k * n code) (check_room work
      (check_places code J
      (check (usable code J) Dependent
      (accepted (joined (matrix code J), cleared work)))))))

  -- Relation: k places to the k coefficients of the function, leading coefficient 1, that is zero at all of them
  abbrev pub relation_outcome : List ℕ → List ℕ → List ℕ → Outcome Lent
  relation_outcome J out work =
      check_code code
      (check_length J code.k (check_length out code.k (check_room work
      (check_places code J
      (check (dependent code J) Independent
      (accepted (relation code J, cleared work)))))))

  -- Pick: s places ranked best first to k places
  abbrev pub pick_outcome : List ℕ → List ℕ → List ℕ → Outcome Lent
  pick_outcome ranked out work =
      check_code code
      (check (leb (length ranked) (n code)) Length (check_length out code.k (check_room work
      (check_places code ranked
      (check (leb code.k (length ranked)) TooFew
      (check (not (eqb (length ranked) code.k && dependent code ranked)) Dependent
      (accepted (pick code ranked, cleared work))))))))

  -- Rebuild: s places with s symbols to the codeword that agrees with all
  abbrev pub rebuild_outcome : List ℕ → List ℕ → List ℕ → List ℕ → Outcome Lent
  rebuild_outcome J us out work =
      check_code code
      (check (leb (length J) (n code)) Length (check_length us (length J) (check_length out (n code) (check_room work
      (check_places code J (check_symbols code us
      (check (leb code.k (length J)) TooFew
      (check (not (eqb (length J) code.k && dependent code J)) Dependent
      (check (agreed code J us) NoCodeword
      (accepted (systematic_word code J us, cleared work)))))))))))
