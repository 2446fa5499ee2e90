-- A call that passes its tests is a call of what stands behind them: the tests of a call to which no number before 12 applies, and the last one.
use Prim.Native.Nat.{ℕ, suc, ◌-◌, ◌≤◌}
use mathlib.Core.Path.{◌≡◌, refl, subst}
use mathlib.Core.Bool.{Bool, true, false}
use mathlib.Core.Logic.{inl, inr, ◌⊎◌, ◌↔◌}
use mathlib.Core.List.Memᴰ.{cast as in-as}
use mathlib.Core.List.Memᴰ.{map as in_map}
use mathlib.Core.List.{List}
use native.Mathlib.Omega.{arith}
use lib.Dec.{eqb}
use lib.ListN.{length, length-map}
use borrow.Author.Tests.{eq-eqb, le-leb}
use Rattle.basics.specs.declared.Refusal.{Refusal}
use Rattle.basics.specs.declared.Refusal.TheVariants.{Length, Place, RepeatedPlace, Symbol}
use Rattle.basics.specs.Outcome.{Answer, Done, Counted, Refused, Outcome, accepted, counted, check, answer, left, Meets}
use Rattle.basics.proofs.Lists.{both_left, both_right, length_table}
use Rattle.codewords.specs.Code.{Code, n, code_answer, check_code}
use Rattle.codewords.specs.Codewords.{below, all_places, places_differ, places, choice, symbols, message}
use Rattle.codewords.proofs.Tests.{in_all}
use Rattle.codewords.proofs.Counting.{fits}
use Rattle.codewords.proofs.Listing.{in_below}
use Rattle.codewords.proofs.Accepted.{check_done}
use Rattle.codewords.proofs.Places.{places_true}
use Rattle.solving.specs.Tests.{check_length, check_room, check_places, check_symbols}
use Rattle.demands.specs.Call.{Call, Fits}

module _ {M : Type 0} {o : Outcome M} {r : Answer} {old new : M} where
  -- a test that holds
  pub on : (e : Refusal) {b : Bool} → b ≡ true → Meets (check b e o) r old new → Meets o r old new
  unfolding check
  on e h m = rw h at m

  pub length_on : (l : List ℕ) {size : ℕ} → length l ≡ size → Meets (check_length l size o) r old new → Meets o r old new
  length_on l h m = on Length (eq-eqb _ _ h) m

module _ {M : Type 0} {o : Outcome M} {r : Answer} {old new : M} where
  pub code_on : (code : Code) → code_answer code ≡ Done → Meets (check_code code o) r old new → Meets o r old new
  code_on code done m = subst (λ o. Meets o r old new) (check_done code done o) m

  pub places_on : (code : Code) (J : List ℕ) → places code J ≡ true → Meets (check_places code J o) r old new → Meets o r old new
  unfolding places
  places_on code J h m =
      on RepeatedPlace (both_right (all_places code J) (places_differ code J) h)
      (on Place (both_left (all_places code J) (places_differ code J) h) m)

  pub symbols_on : (code : Code) (us : List ℕ) → symbols code us ≡ true → Meets (check_symbols code us o) r old new → Meets o r old new
  symbols_on code us h m = on Symbol h m

  pub fits_on : {size : ℕ} {c : Call} → Fits size c → Meets (check_length c.out size (check_room c.work o)) r old new → Meets o r old new
  fits_on {size} {c} h m = on Length (le-leb _ _ h.working) (length_on c.out h.output m)

-- what a choice and a message have passed
module _ (code : Code) (J : List ℕ) where
  pub choice_are_places : choice code J ≡ true → places code J ≡ true
  unfolding choice
  choice_are_places h = both_left (places code J) (eqb (length J) code.k) h

  pub message_symbols : message code J ≡ true → symbols code J ≡ true
  unfolding message
  message_symbols h = both_left (symbols code J) (eqb (length J) code.k) h

  -- different places are no more than n
  pub places_most : places code J ≡ true → length J ≤ n code
  places_most h =
      let P = places_true code J h in
      let inside = fits P.unique (λ p i. let (least, most) = in_all i P.spots in in-as (omega arith) (in_map suc (in_below (n code) (p - 1) (omega arith)))) in
      omega (arith, inside, length-map (below (n code)) suc, length_table (λ b. b) (n code))

-- a test that fails
pub refused_on : {M : Type 0} (e : Refusal) (o : Outcome M) {b : Bool} {r : Answer} {old new : M} → b ≡ false → Meets (check b e o) r old new → r ≡ Refused e
unfolding check answer
refused_on e o {b = true} h m = cc
refused_on e o {b = false} h m = m.answers

-- the last test decides: a refusal exactly if it fails, and otherwise what is accepted
pub record Decided {M : Type 0} (b : Bool) (e : Refusal) (l : M) (r : Answer) (new : M) : Type 0 where
  pub refuses : (r ≡ Refused e) ↔ (b ≡ false)
  pub done : (r ≡ Done) ↔ (b ≡ true)
  pub gives : b ≡ true → new ≡ l

pub decided : {M : Type 0} {e : Refusal} (b : Bool) {l : M} {r : Answer} {old new : M} → Meets (check b e (accepted l)) r old new → Decided b e l r new
unfolding check answer left
decided true m = record { refuses = (λ h. cc, λ h. cc); done = (λ h. refl, λ h. m.answers); gives = λ h. m.leaves }
decided false m = record { refuses = (λ h. refl, λ h. m.answers); done = (λ h. cc, λ h. cc); gives = λ h. cc }

-- the same of what is counted
pub decides : {M : Type 0} {e : Refusal} (b : Bool) {k : ℕ} {l : M} {r : Answer} {old new : M} → Meets (check b e (counted k l)) r old new
    → ((b ≡ true) × (r ≡ Counted k) × (new ≡ l)) ⊎ ((b ≡ false) × (r ≡ Refused e))
unfolding check answer left
decides true m = inl (refl, m.answers, m.leaves)
decides false m = inr (refl, m.answers)

-- no test is left
pub accepted_on : {M : Type 0} {l : M} {r : Answer} {old new : M} → Meets (accepted l) r old new → (r ≡ Done) × (new ≡ l)
unfolding answer left
accepted_on m = (m.answers, m.leaves)

pub counted_on : {M : Type 0} {k : ℕ} {l : M} {r : Answer} {old new : M} → Meets (counted k l) r old new → (r ≡ Counted k) × (new ≡ l)
unfolding answer left
counted_on m = (m.answers, m.leaves)
