-- The tests that operations over places share, in the order of their numbers, and the lent memory that they leave.
use Prim.{Unit, tt}
use Rattle.std.specs.Prelude.{ℕ, not, ◌&&◌, List, ◌++◌, eqb, leb, length, drop, replicate}
use Rattle.basics.specs.declared.Refusal.TheVariants.{Length, Place, RepeatedPlace, Symbol, Dependent, TooFew}
use Rattle.basics.specs.Lists.{all, different}
use Rattle.basics.specs.Outcome.{Answer, Outcome, accepted, check, answer}
use Rattle.codewords.specs.Code.{Code}
use Rattle.codewords.specs.Codewords.{all_places, places_differ, symbols, dependent}
use Rattle.code.specs.Lists.{is_place}

-- an output, and the working space
abbrev pub Lent : Type 0
Lent = List ℕ × List ℕ

-- how much of the working space is used: its first bytes are zero after acceptance, and the rest is untouched
abbrev pub room : ℕ
room = 8192

abbrev pub cleared : List ℕ → List ℕ
cleared work = replicate room 0 ++ drop room work

module _ {M : Type 0} where
  -- a list has the length that it must have, and there is room to work
  abbrev pub check_length : List ℕ → ℕ → Outcome M → Outcome M
  check_length l size o = check (eqb (length l) size) Length o

  abbrev pub check_room : List ℕ → Outcome M → Outcome M
  check_room work o = check (leb room (length work)) Length o

  -- places of the code, none of which stands twice
  abbrev pub check_places : Code → List ℕ → Outcome M → Outcome M
  check_places code J o = check (all_places code J) Place (check (places_differ code J) RepeatedPlace o)

  abbrev pub check_symbols : Code → List ℕ → Outcome M → Outcome M
  check_symbols code us o = check (symbols code us) Symbol o

-- the answer alone of the tests of places, by the number of points
abbrev pub places_answer : ℕ → List ℕ → Answer
places_answer n J = answer {M = Unit {0}} (check (all (is_place n) J) Place (check (different eqb J) RepeatedPlace (accepted tt)))

module _ (code : Code) where
  -- the tests of places and symbols from number 9 to 13, and their answer alone
  abbrev pub check_lists : {M : Type 0} → List ℕ → List ℕ → Outcome M → Outcome M
  check_lists J us o = check_places code J (check_symbols code us (check (leb code.k (length J)) TooFew o))

  abbrev pub lists_answer : List ℕ → List ℕ → Answer
  lists_answer J us = answer (check_lists {M = Unit {0}} J us (accepted tt))

  -- and with number 12 behind them
  abbrev pub check_posed : {M : Type 0} → List ℕ → List ℕ → Outcome M → Outcome M
  check_posed J us o = check_lists J us (check (not (eqb (length J) code.k && dependent code J)) Dependent o)

  abbrev pub posed_answer : List ℕ → List ℕ → Answer
  posed_answer J us = answer (check_posed {M = Unit {0}} J us (accepted tt))
