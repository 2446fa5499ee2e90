-- Where e keeps the places of the definition, the word that they decide is the one that the definition decodes, so its distance decides whether there is a codeword within t.
use Prim.Native.Nat.{ℕ, ◌<◌, ◌≤◌}
use mathlib.Core.Path.{◌≡◌, refl, sym, ◌∙◌, ap}
use mathlib.Core.Bool.{Bool, true, false, ◌&&◌}
use mathlib.Core.List.{List}
use native.Mathlib.Omega.{arith}
use lib.Dec.{ltb}
use lib.ListN.{length}
use borrow.Author.Tests.{lt-ltb, le-ltb, le-leb, lt-leb}
use Rattle.basics.proofs.Lists.{both_true}
use Rattle.codewords.specs.Code.{Code, n}
use Rattle.codewords.specs.Codewords.{message, word}
use Rattle.codewords.specs.Computed.{solution}
use Rattle.codewords.proofs.Accepted.{accepted_done}
use Rattle.codewords.proofs.Computed.{computed}
use Rattle.decoding.specs.Near.{distance, radius, within, correctable, corrected}
use Rattle.decoding.specs.Rows.{kept_places, kept_symbols, decoded, decodes}
use Rattle.decoding.proofs.Decoding.{decoding}
use Rattle.solving.specs.Given.{solved_word}
use Rattle.solving.proofs.Link.{posed_enough}
use Rattle.correction.specs.Kept.{kept_in, symbols_at, Decided}
use Rattle.correction.specs.Located.{Located}
use Rattle.correction.proofs.Solving.{kept_posed}

-- the second test of two fails
not_second : (a : Bool) {b : Bool} → b ≡ false → (a && b) ≡ false
not_second true e = e
not_second false e = refl

module _ {code : Code} {r e : List ℕ} (g : Located code r e) where
  abbrev J : List ℕ
  J = kept_in e

  abbrev us : List ℕ
  us = symbols_at r J

  pub few : n code ≤ 288
  few = (accepted_done code g.done).n_most

  accepts : correctable code r ≡ decodes code r
  accepts = (decoding code g.done).correctable_by r g.are_symbols g.symbols_size

  -- too few places are kept
  pub too_few : length J ≤ code.k → correctable code r ≡ false
  unfolding decodes
  too_few h =
      let few : length (kept_places code r) ≤ code.k = rw (← g.kept_is) h in
      accepts ∙ ap (λ b. b && within code r (word code (decoded code r))) (le-ltb code.k (length (kept_places code r)) few)

  module _ (many : code.k < length J) where
    pub decided : Decided code r e
    decided = record { done = g.done; are_symbols = g.are_symbols; symbols_size = g.symbols_size; kept_size = g.kept_size; enough = many }

    coefficients : message code (solution code J us) ≡ true
    coefficients = (computed code g.done).solved_coefficients J us (posed_enough (kept_posed decided) (λ full. absurd (omega (arith, full))))

    -- THEOREM: the word of the kept places is the decoded one
    decoded_word : solved_word code J us ≡ word code (decoded code r)
    unfolding kept_symbols decoded
    decoded_word = sym ((computed code g.done).word_by (solution code J us) coefficients) ∙ ap (λ J. word code (solution code J (symbols_at r J))) g.kept_is

    module _ {w : List ℕ} (is_solved : w ≡ solved_word code J us) where
      is_decoded : w ≡ word code (decoded code r)
      is_decoded = is_solved ∙ decoded_word

      -- it is further than t
      pub too_far : radius code < distance w r → correctable code r ≡ false
      unfolding within decodes
      too_far h =
          let far : radius code < distance (word code (decoded code r)) r = rw (← is_decoded) h in
          accepts ∙ not_second (ltb code.k (length (kept_places code r))) (lt-leb _ (radius code) far)

      -- it is within t: it is the codeword that is sought
      pub near : distance w r ≤ radius code → correctable code r ≡ true
      unfolding within decodes
      near h =
          let close : distance (word code (decoded code r)) r ≤ radius code = rw (← is_decoded) h in
          let more : code.k < length (kept_places code r) = rw (← g.kept_is) many in
          accepts ∙ both_true (ltb code.k (length (kept_places code r))) _ (lt-ltb _ _ more) (le-leb _ (radius code) close)

      pub is_corrected : distance w r ≤ radius code → w ≡ corrected code r
      is_corrected h = is_decoded ∙ sym ((decoding code g.done).corrected_by r g.are_symbols g.symbols_size (near h))
