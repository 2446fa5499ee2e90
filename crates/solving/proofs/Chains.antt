-- The chain of tests before a function is solved for: what its answer says of the tests, and of an outcome that begins with it.
use Prim.{Unit, tt}
use Prim.Native.Nat.{ℕ}
use mathlib.Core.Path.{◌≡◌, refl, sym, ◌∙◌, ap}
use mathlib.Core.Bool.{Bool, true, false, not, ◌&&◌}
use mathlib.Core.List.{List}
use lib.Dec.{eqb, leb}
use lib.ListN.{length}
use native.Mathlib.Omega.{arith}
use borrow.Author.Tests.{leb-true, le-leb, eq-eqb}
use Rattle.basics.specs.declared.Refusal.{Refusal}
use Rattle.basics.specs.declared.Refusal.TheVariants.{Dependent, TooFew}
use Rattle.std.specs.Prelude.{Result, Ok, Err}
use Rattle.std.specs.Result.{IsErrAnd}
use Rattle.basics.specs.Outcome.{answer_of, Answer, Done, Refused, Outcome, accepted, check, answer, left, Meets}
use Rattle.basics.proofs.Outcomes.{check_true, pass, refuse, accept}
use Rattle.codewords.specs.Code.{Code, n, code_answer}
use Rattle.codewords.specs.Codewords.{all_places, places_differ, symbols, dependent, usable}
use Rattle.codewords.specs.Computed.{Enough}
use Rattle.solving.specs.Given.{Placed, Posed, Solving, Prepared}
use Rattle.solving.specs.Tests.{check_places, places_answer, check_symbols, check_lists, lists_answer, check_posed, posed_answer}
use Rattle.solving.proofs.Link.{posed_enough}

-- a chain that answers Done passed its first test
done_check : (b : Bool) (e : Refusal) (u : Outcome (Unit {0})) → answer (check b e u) ≡ Done → (b ≡ true) × (answer u ≡ Done)
unfolding check answer
done_check true e u h = (refl, h)
done_check false e u h = (cc, cc)

-- and one that does not, refuses as every outcome that begins with the same tests
module _ {M : Type 0} {r : Answer} {old : M} where
  stop_check : (b : Bool) (e : Refusal) (u : Outcome (Unit {0})) (o : Outcome M) → (r ≡ answer u → (r ≡ Done → ⊥) → Meets o r old old)
      → r ≡ answer (check b e u) → (r ≡ Done → ⊥) → Meets (check b e o) r old old
  unfolding check answer left
  stop_check true e u o k h d = k h d
  stop_check false e u o k h d = record { answers = h; leaves = refl }

  stop_end : (o : Outcome M) → r ≡ answer {M = Unit {0}} (accepted tt) → (r ≡ Done → ⊥) → Meets o r old old
  unfolding answer
  stop_end o h d = absurd (d h)

-- a refusal is not Done
not_done : {e : Refusal} → Refused e ≡ Done → ⊥
not_done h = let z : ◌≡◌ {A = ℕ} 0 1 = cc in absurd (omega arith)

-- an operation that begins with the tests of places: it goes on where their answer is Done, and else the answer is its own
module _ (code : Code) (J : List ℕ) where
  pub places_stop : {M : Type 0} {r : Answer} {old : M} (o : Outcome M) → r ≡ places_answer (n code) J → (r ≡ Done → ⊥) → Meets (check_places code J o) r old old
  unfolding all_places places_differ
  places_stop o = stop_check _ _ _ _ (stop_check _ _ _ _ (stop_end o))

  pub places_refused : {M : Type 0} {old : M} (o : Outcome M) {e : Refusal} → Refused e ≡ places_answer (n code) J → Meets (check_places code J o) (Refused e) old old
  places_refused o h = places_stop o h not_done

  module _ (h : places_answer (n code) J ≡ Done) where
    pub places_passed : (all_places code J ≡ true) × (places_differ code J ≡ true)
    unfolding all_places places_differ
    places_passed = let (a, h₁) = done_check _ _ _ h in (a, (done_check _ _ _ h₁).0)

    pub are_placed : code_answer code ≡ Done → Placed code J
    are_placed done = record { done = done; are_all_places = places_passed.0; differ = places_passed.1 }

    pub places_go : {M : Type 0} (o : Outcome M) {r : Answer} {old new : M} → Meets o r old new → Meets (check_places code J o) r old new
    places_go o m = pass _ places_passed.0 (pass _ places_passed.1 m)

module _ (code : Code) (J us : List ℕ) where
  pub lists_stop : {M : Type 0} {r : Answer} {old : M} (o : Outcome M) → r ≡ lists_answer code J us → (r ≡ Done → ⊥) → Meets (check_lists code J us o) r old old
  lists_stop o = stop_check _ _ _ _ (stop_check _ _ _ _ (stop_check _ _ _ _ (stop_check _ _ _ _ (stop_end o))))

  pub posed_stop : {M : Type 0} {r : Answer} {old : M} (o : Outcome M) → r ≡ posed_answer code J us → (r ≡ Done → ⊥) → Meets (check_posed code J us o) r old old
  posed_stop o = stop_check _ _ _ _ (stop_check _ _ _ _ (stop_check _ _ _ _ (stop_check _ _ _ _ (stop_check _ _ _ _ (stop_end o)))))

  -- the tests that were passed
  record Passed : Type 0 where
    are_all_places : all_places code J ≡ true
    differ : places_differ code J ≡ true
    are_symbols : symbols code us ≡ true
    enough : leb code.k (length J) ≡ true

  passed_all : (u : Outcome (Unit {0})) → answer (check_lists code J us u) ≡ Done → Passed × (answer u ≡ Done)
  passed_all u h =
      let (a, h₁) = done_check _ _ _ h in
      let (b, h₂) = done_check _ _ _ h₁ in
      let (c, h₃) = done_check _ _ _ h₂ in
      let (d, h₄) = done_check _ _ _ h₃ in
      (record { are_all_places = a; differ = b; are_symbols = c; enough = d }, h₄)

  pass_all : Passed → {M : Type 0} (o : Outcome M) {r : Answer} {old new : M} → Meets o r old new → Meets (check_lists code J us o) r old new
  pass_all t o m = pass _ t.are_all_places (pass _ t.differ (pass _ t.are_symbols (pass _ t.enough m)))

  posed_by : Passed → code_answer code ≡ Done → length us ≡ length J → Posed code J us
  posed_by t done e =
      record { placed = record { done = done; are_all_places = t.are_all_places; differ = t.differ }; are_symbols = t.are_symbols; lengths = e; at_least = leb-true _ _ t.enough }

  module _ (h : lists_answer code J us ≡ Done) where
    pub lists_go : {M : Type 0} (o : Outcome M) {r : Answer} {old new : M} → Meets o r old new → Meets (check_lists code J us o) r old new
    lists_go = pass_all (passed_all (accepted tt) h).0

    pub posed : code_answer code ≡ Done → length us ≡ length J → Posed code J us
    posed = posed_by (passed_all (accepted tt) h).0

  -- what a solver says, as the answer of all tests up to number 12
  module _ {claim : Type 0} where
    pub prepared_not : lists_answer code J us ≡ Done → {r : Bool} → Solving code J claim r → r ≡ false → Prepared code J us claim (Refused Dependent)
    prepared_not h s e =
        record {
          answers = (lists_go h _ (refuse _ {old = tt} (sym s.free ∙ e))).answers;
          holds = λ d. let z : ◌≡◌ {A = ℕ} 0 1 = cc in absurd (omega arith);
        }

    pub prepared_done : lists_answer code J us ≡ Done → {r : Bool} → Solving code J claim r → r ≡ true → Prepared code J us claim Done
    prepared_done h s e =
        record { answers = (lists_go h _ (pass _ {old = tt} {new = tt} (sym s.free ∙ e) (accept refl))).answers; holds = λ d. s.holds e }

    pub prepared_stop : {r : Answer} → r ≡ lists_answer code J us → (r ≡ Done → ⊥) → Prepared code J us claim r
    prepared_stop e d = record { answers = (lists_stop {old = tt} _ e d).answers; holds = λ h. absurd (d h) }

    pub prepared_refused : {e : Refusal} (r : Result (Unit {0}) Refusal) → IsErrAnd r (λ d. d ≡ e) → Refused e ≡ lists_answer code J us → Prepared code J us claim (answer_of r)
    prepared_refused (Ok u) h k = absurd h
    prepared_refused (Err d) h k = rw h (prepared_stop k not_done)

  module _ (h : posed_answer code J us ≡ Done) where
    free : not (eqb (length J) code.k && dependent code J) ≡ true
    free = (done_check _ _ _ (passed_all _ h).1).0

    pub posed_go : {M : Type 0} (o : Outcome M) {r : Answer} {old new : M} → Meets o r old new → Meets (check_posed code J us o) r old new
    posed_go o m = pass_all (passed_all _ h).0 _ (pass _ free m)

    -- there are k usable places or more
    pub solvable : code_answer code ≡ Done → length us ≡ length J → Posed code J us
    solvable = posed_by (passed_all _ h).0

    pub enough : code_answer code ≡ Done → length us ≡ length J → Enough code J us
    unfolding usable
    enough done e = posed_enough (solvable done e) (λ full. ap (λ b. not (b && dependent code J)) (sym (eq-eqb _ _ full)) ∙ free)

  -- with k places the tests are those of Systematic function and Systematic word
  pub posed_as : {M : Type 0} (o : Outcome M) → length J ≡ code.k → check_places code J (check_symbols code us (check (usable code J) Dependent o)) ≡ check_posed code J us o
  unfolding usable
  posed_as o full =
      ap (λ b. check_places code J (check_symbols code us (check (not (b && dependent code J)) Dependent o))) (sym (eq-eqb _ _ full))
      ∙ ap (λ o. check_places code J (check_symbols code us o)) (sym (check_true TooFew _ (le-leb code.k (length J) (omega arith))))
