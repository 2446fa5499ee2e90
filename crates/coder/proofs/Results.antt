-- What stands in the arrays after the tests is what the definitions say: the function, its codeword, and whether that agrees.
use Rattle.basics.specs.Outcome.{Done}
use Prim.Native.Nat.{ℕ}
use mathlib.Core.Path.{◌≡◌, sym, ◌∙◌, ap}
use mathlib.Core.Bool.{Bool, true}
use mathlib.Core.List.{List}
use lib.Dec.{eqb}
use lib.ListN.{length, take}
use native.Mathlib.Omega.{arith}
use borrow.Author.Tests.{eq-eqb}
use Rattle.basics.specs.declared.MessageIndex.{MessageIndex}
use Rattle.basics.proofs.Lists.{both_true, both_left}
use Rattle.elliptic.specs.Pair.{padded}
use Rattle.codewords.specs.Code.{Code, code_answer}
use Rattle.codewords.specs.Codewords.{agrees, unit_message, places, choice, message, symbols, word, agreed, systematic_word, systematic_function, row}
use Rattle.codewords.specs.Computed.{Enough, solution}
use Rattle.codewords.proofs.Places.{message_listed}
use Rattle.codewords.proofs.Computed.{computed}
use Rattle.codewords.proofs.Demand3.{unit_message_lem}
use Rattle.solving.specs.Given.{Works, Posed, HoldsFunction, solved_word}
use Rattle.solving.proofs.Link.{padded_full, accepted, posed_enough}

module _ (code : Code) (J us : List ℕ) (done : code_answer code ≡ Done) (there : Enough code J us) where
  is_message : message code (solution code J us) ≡ true
  is_message = (computed code done).solved_coefficients J us there

  -- the word of the function
  by_values : solved_word code J us ≡ word code (solution code J us)
  by_values = sym ((computed code done).word_by (solution code J us) is_message)

  -- k places
  module _ (full : length J ≡ code.k) where
    given : message code us ≡ true
    unfolding message
    given = both_true (symbols code us) (eqb (length us) code.k) there.are_symbols (eq-eqb _ _ (there.lengths ∙ full))

    is_choice : choice code J ≡ true
    unfolding choice
    is_choice = both_true (places code J) (eqb (length J) code.k) there.are_places (eq-eqb _ _ full)

    pub the_function : {f : List ℕ} {n : ℕ} → n ≡ code.k → HoldsFunction code J us f → padded n (take code.k f) ≡ systematic_function code J us
    the_function {f} e w =
        ap (λ k. padded k (take code.k f)) e ∙ ap (padded code.k) w.first ∙ padded_full code.k (solution code J us) (message_listed code (solution code J us) is_message).size
        ∙ sym ((computed code done).function_by J us is_choice given (there.works full))

    pub the_word : {v : List ℕ} → v ≡ solved_word code J us → v ≡ systematic_word code J us
    the_word w = w ∙ by_values ∙ sym ((computed code done).systematic_by J us is_choice given (there.works full))

  -- k places or more
  pub agreed_by : {v : List ℕ} {r : Bool} → v ≡ solved_word code J us → r ≡ agrees v J us → agreed code J us ≡ r
  agreed_by w e = (computed code done).rebuilt_by J us there ∙ ap (λ v. agrees v J us) (sym (w ∙ by_values)) ∙ sym e

  pub rebuilt : {v : List ℕ} → v ≡ solved_word code J us → agreed code J us ≡ true → v ≡ systematic_word code J us
  rebuilt w t = w ∙ by_values ∙ sym ((computed code done).rebuilt_word_by J us there t)

-- a row of Matrix: what was solved for with a unit message
module _ {code : Code} {J : List ℕ} (w : Works code J) (i : MessageIndex) where
  abbrev unit : List ℕ
  unit = unit_message code.k i

  unit_listed : (symbols code unit ≡ true) × (length unit ≡ length J)
  unfolding message
  unit_listed =
      let m = unit_message_lem code (accepted w.placed) i.0 in
      let l = message_listed code unit m in
      (both_left (symbols code unit) (eqb (length unit) code.k) m, l.size ∙ sym w.full)

  posed_unit : Posed code J unit
  posed_unit = record { placed = w.placed; are_symbols = unit_listed.0; lengths = unit_listed.1; at_least = omega (arith, w.full) }

  pub the_row : {v : List ℕ} → v ≡ solved_word code J unit → v ≡ row code J i
  unfolding row
  the_row = the_word code J unit w.placed.done (posed_enough posed_unit (λ e. w.works)) w.full
