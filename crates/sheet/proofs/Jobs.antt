-- The stages of a job: what the operations that it calls leave, and what it stops at.
use Prim.Native.Nat.{ℕ, ◌≤◌}
use mathlib.Core.Bool.{Bool, true, false}
use mathlib.Core.Path.{◌≡◌, refl, sym, ◌∙◌, ap, ap₂, subst}
use mathlib.Core.List.{List, [], ◌++◌, map}
use native.Mathlib.Omega.{arith}
use borrow.Author.Tests.{eq-eqb, le-leb, lt-ltb, ltb-true}
use lib.Dec.{ltb}
use lib.ListN.{length, take}
use lib.Seq.{take_at}
use Rattle.std.proofs.lemmas.List.{length-map}
use Rattle.std.specs.Prelude.{Result, Ok}
use Rattle.basics.specs.declared.Refusal.{Refusal}
use Rattle.basics.specs.declared.Refusal.TheVariants.{Length, Place, RepeatedPlace, Symbol, Dependent}
use Rattle.basics.specs.Lists.{all, written}
use Rattle.basics.specs.Outcome.{Done, Counted, Refused, Outcome, refused, accepted, counted, check, answer, left, counts, Meets}
use Rattle.basics.proofs.Lists.{all_weaker}
use Rattle.basics.proofs.Outcomes.{check_true}
use Rattle.field.specs.Galois.{IsField, size, galois}
use Rattle.field.proofs.Galois.{size_le}
use Rattle.elliptic.specs.declared.Curve.{Curve}
use Rattle.elliptic.specs.Curve.{coefficients_of, coefficients_below, affine_points}
use Rattle.curve.specs.Points.{points_outcome, room as most}
use Rattle.curve.proofs.Count.{points_counts}
use Rattle.code.specs.Lists.{is_below}
use Rattle.codewords.specs.declared.Parameters.{Parameters}
use Rattle.codewords.specs.Code.{Code, n, check_code, coefficients_below as codeBelow, smooth}
use Rattle.codewords.specs.Codewords.{symbols, systematic_function, systematic_word, usable}
use Rattle.codewords.proofs.Accepted.{check_done}
use Rattle.solving.specs.Tests.{check_length, check_room, check_places, check_symbols, places_answer}
use Rattle.solving.proofs.Chains.{places_passed, places_refused}
use Rattle.sheet.specs.Job.{outcome_over}
use Rattle.sheet.specs.Running.{Solution, Solvable, Runs, over_points, after_code, solving}
use Rattle.sheet.proofs.Stops.{passes, refused_as, refused_check}

-- ---- symbols as bytes

-- symbols below q are bytes
pub are_bytes : (code : Code) (msg : List ℕ) → IsField code.field → symbols code msg ≡ true → all (is_below 256) msg ≡ true
unfolding symbols
are_bytes code msg f e = all_weaker (is_below (size code.field)) (is_below 256) msg (λ a t. lt-ltb a 256 (omega (arith, ltb-true a (size code.field) t, size_le f))) e

-- ---- the two operations, where only dependent places are left to test

pub left_as : (code : Code) (J msg out work : List ℕ) (size : ℕ) → Solvable code J msg → length work ≡ 8192 → length out ≡ size → {M : Type 0} {o : Outcome M}
    → check_code code (check_length J code.k (check_length msg code.k (check_length out size (check_room work (check_places code J (check_symbols code msg o)))))) ≡ o
left_as code J msg out work size s room e =
    check_done code s.done _ ∙ check_true Length _ (eq-eqb _ _ s.places_many) ∙ check_true Length _ (eq-eqb _ _ s.symbols_many) ∙ check_true Length _ (eq-eqb _ _ e)
    ∙ check_true Length _ (le-leb 8192 (length work) (omega (arith, room))) ∙ check_true Place _ s.are_all_places ∙ check_true RepeatedPlace _ s.differ ∙ check_true Symbol _ s.are_symbols

-- both accepted: the function and the word stand at the front of two buffers
pub both_solved : (code : Code) (places msg : List ℕ) {F W c₁ c₂ k₁ k₂ : List ℕ} (f w : List ℕ) → code.k ≤ 288 → n code ≤ 288 → length F ≡ code.k → length W ≡ n code
    → (usable code places ≡ true) × ◌≡◌ {A = List ℕ × List ℕ} (F, k₁) (systematic_function code places msg, c₁)
    → (usable code places ≡ true) × ◌≡◌ {A = List ℕ × List ℕ} (W, k₂) (systematic_word code places msg, c₂)
    → Runs (solving code places msg) code.k (F ++ f) (W ++ w) (Ok (n code))
both_solved code places msg {F} {W} f w a b e₁ e₂ h₁ h₂ =
    record {
      outcome = ap₂ (λ x y. accepted (x, y)) (take_at F f code.k e₁ ∙ ap (λ x. x.0) h₁.1) (take_at W w (n code) e₂ ∙ ap (λ x. x.0) h₂.1) ∙ sym (check_true Dependent _ h₁.0);
      within = (a, b);
    }

-- ---- the tests of a job whose code passed its own

-- symbols below the field's size
pub symbols_as : (code : Code) (msg : List ℕ) {q : ℕ} {r : Bool} → q ≡ size code.field → r ≡ all (is_below q) msg → symbols code msg ≡ r
unfolding symbols
symbols_as code msg e h = rw (h, e) refl

-- the tests of places
pub places_stop : (code : Code) (J : List ℕ) (o : Outcome Solution) {e : Refusal} → Refused e ≡ places_answer (n code) J → refused e ≡ check_places code J o
places_stop code J o h = refused_as _ (places_refused code J {old = ([], [])} o h).answers

module _ (code : Code) (J msg : List ℕ) (e₁ : length J ≡ code.k) (e₂ : length msg ≡ code.k) {k : ℕ} {f w : List ℕ} {r : Result ℕ Refusal} where
  pub after_lengths : Runs (check_places code J (check_symbols code msg (solving code J msg))) k f w r → Runs (after_code code J msg) k f w r
  after_lengths m = passes _ (eq-eqb _ _ e₁) (passes _ (eq-eqb _ _ e₂) m)

  pub after_places : Done ≡ places_answer (n code) J → Runs (check_symbols code msg (solving code J msg)) k f w r → Runs (after_code code J msg) k f w r
  after_places h m = let t = places_passed code J (sym h) in after_lengths (passes _ t.0 (passes _ t.1 m))

-- ---- the points

peel : {M : Type 0} (b : Bool) (e : Refusal) (o : Outcome M) {n : ℕ} {old new : M} → Meets (check b e o) (Counted n) old new → Meets o (Counted n) old new
unfolding check answer
peel true e o m = m
peel false e o m = let z = m.answers in let y : ◌≡◌ {A = ℕ} 0 1 = cc in absurd (omega arith)

counted_as : {k n : ℕ} {x y x' y' : List ℕ} {old : List ℕ × List ℕ} → Meets (counted k (x, y)) (Counted n) old (x', y') → (n ≡ k) × (x' ≡ x) × (y' ≡ y)
unfolding answer left
counted_as t = let h = t.answers in (cc, ap (λ a. a.0) t.leaves, ap (λ a. a.1) t.leaves)

abbrev pub listed_x : Parameters → List ℕ
listed_x p = map (λ P. P.x) (affine_points (galois p.field) p.curve)

abbrev pub listed_y : Parameters → List ℕ
listed_y p = map (λ P. P.y) (affine_points (galois p.field) p.curve)

module _ (p : Parameters) {xs ys xs' ys' : List ℕ} where
  pub points_refused : {e : Refusal} (J msg : List ℕ) → length xs ≡ most → length ys ≡ most → Meets (points_outcome p.field p.curve xs ys) (Refused e) (xs, ys) (xs', ys')
      → refused e ≡ outcome_over (over_points p) J msg
  unfolding points_outcome codeBelow smooth
  points_refused J msg e₁ e₂ met =
      refused_check _ _ (refused_check _ _ (refused_check _ _ (λ h. let z = h ∙ check_true Length _ (rw (eq-eqb (length xs) most e₁, eq-eqb (length ys) most e₂)) in cc))) (refused_as _ met.answers)

  module _ {n : ℕ} (met : Meets (points_outcome p.field p.curve xs ys) (Counted n) (xs, ys) (xs', ys')) where
    is_counted : (n ≡ length (affine_points (galois p.field) p.curve)) × (xs' ≡ written (listed_x p) xs) × (ys' ≡ written (listed_y p) ys)
    unfolding points_outcome
    is_counted = counted_as (peel _ _ _ (peel _ _ _ (peel _ _ _ (peel _ _ _ met))))

    pub few_points : n ≤ 288
    few_points = subst (λ a. counts a ≤ most) (sym met.answers) (points_counts p.field p.curve xs ys)

    pub points_x : take n xs' ≡ listed_x p
    points_x = rw is_counted.1 (take_at (listed_x p) _ n (length-map (affine_points (galois p.field) p.curve) (λ P. P.x) ∙ sym is_counted.0))

    pub points_y : take n ys' ≡ listed_y p
    points_y = rw is_counted.2 (take_at (listed_y p) _ n (length-map (affine_points (galois p.field) p.curve) (λ P. P.y) ∙ sym is_counted.0))

-- ---- numbers that are too large for a byte

pub too_large : (m : ℕ) (C : Curve) → IsField m → coefficients_below 256 C ≡ false → coefficients_below (size m) C ≡ false
too_large m C f e = by (coefficients_below (size m) C) refl
  where
    by : (b : Bool) → coefficients_below (size m) C ≡ b → coefficients_below (size m) C ≡ false
    by false h = h
    by true h =
        let z = sym e ∙ all_weaker (λ g. ltb g (size m)) (λ g. ltb g 256) (coefficients_of C) (λ a t. lt-ltb a 256 (omega (arith, ltb-true a (size m) t, size_le f))) h in
        let y : ◌≡◌ {A = ℕ} 0 1 = cc in absurd (omega arith)
