-- The starred cases of calls: the tests by computation, and what is given by the tables of the definitions, where each list has one entry.
use Prim.Native.Nat.{ℕ}
use mathlib.Core.Path.{◌≡◌, refl, sym, ◌∙◌, ap}
use mathlib.Core.Bool.{true, false, not, ◌&&◌}
use mathlib.Core.List.{List, [], ◌∷◌, map}
use native.Mathlib.Omega.{arith}
use lib.Dec.{eqb}
use lib.IntN.{pos}
use lib.ListN.{length, length-map}
use borrow.Author.Tests.{eq-eqb}
use Rattle.basics.specs.declared.Refusal.TheVariants.{Singular}
use Rattle.basics.specs.Lists.{written}
use Rattle.basics.specs.Outcome.{Done, refused, accepted, counted}
use Rattle.basics.proofs.Lists.{both_true}
use Rattle.basics.proofs.Outcomes.{check_true, check_false}
use Rattle.field.specs.Sum.{◌⊕◌}
use Rattle.field.specs.Galois.{IsField, galois, rows, modulus, width, size, product}
use Rattle.field.specs.Polynomial.{digits, horner, clmul, times_x, reduce, mul}
use Rattle.field.proofs.Galois.{field_true, galois_field}
use Rattle.elliptic.specs.declared.Curve.{Curve}
use Rattle.elliptic.specs.declared.Point.{Point}
use Rattle.elliptic.specs.Curve.{coefficients_below, on_curve, singular_at, singular, affine_points}
use Rattle.elliptic.specs.Functions.{leading}
use Rattle.codewords.specs.Code.{Code, n, code_answer}
use Rattle.codewords.specs.Codewords.{unit_message, agrees, all_places, places_differ, places, choice, symbols, message, word, agreeing, count, agreeing_functions, dependent, usable, zero_on, relations}
use Rattle.codewords.specs.Cases.{curve, A, B}
use Rattle.codewords.proofs.Tests.{in_filter, passes}
use Rattle.codewords.proofs.Accepted.{check_done}
use Rattle.codewords.proofs.Choice.{count_functions, dependent_usable}
use Rattle.codewords.proofs.Demand3.{demand3 as on-codewords}
use Rattle.codewords.proofs.Cases.{zero_below, zero_singular, cases}
use Rattle.curve.specs.Points.{points_outcome, listing, room as pointRoom}
use Rattle.hours.proofs.Cases.{cases as hour-cases}
use Rattle.hours.specs.Packing.{pack_outcome}
use Rattle.blocks.specs.Outcomes.{pack_block_outcome}
use Rattle.sheet.proofs.Cases.{cases as sheet-cases}
use Rattle.coder.specs.Outcomes.{systematic_function_outcome, systematic_word_outcome, relation_outcome, rebuild_outcome}
use Rattle.demands.specs.Starred.{Starred, Gives, Lists}
use Rattle.demands.proofs.Ones.{in_one, one_word, message_in}
use Rattle.demands.proofs.Demand3.{demand3}

-- ---- where a list of the definitions has one entry, the call gives it

module _ (code : Code) (done : code_answer code ≡ Done) (J : List ℕ) (j : choice code J ≡ true) where
  module _ (msg : List ℕ) (m : message code msg ≡ true) where
    gives_function : {f : List ℕ} → agreeing_functions code J msg ≡ f ∷ [] → Gives code.k (systematic_function_outcome code J msg) f
    unfolding agreeing_functions
    gives_function e c o fits =
        let d = (demand3 code done).of_systematic_function J msg c o j m fits in
        let u = ((on-codewords code done).usable_exactly J msg j m).1 (count_functions code J msg ∙ ap length e) in
        let g = d.gives u in
        (d.usable_done.1 u, in_one e (in_filter (λ f. agrees (word code f) J msg) (message_in code done c.out_after g.is_function) g.its_word.agreeing))

    module _ {w : List ℕ} (e : agreeing code J msg ≡ w ∷ []) where
      word_usable : usable code J ≡ true
      word_usable = ((on-codewords code done).usable_exactly J msg j m).1 (one_word code J msg e).one

      gives_word : Gives (n code) (systematic_word_outcome code J msg) w
      gives_word c o fits =
          let d = (demand3 code done).of_systematic_word J msg c o j m fits in
          let g = d.gives word_usable in
          (d.usable_done.1 word_usable, (one_word code J msg e).only c.out_after g.is_codeword g.agreeing)

      gives_rebuilt : Gives (n code) (rebuild_outcome code J msg) w
      gives_rebuilt c o fits =
          let d = (demand3 code done).rebuild J msg c o j m fits in
          let g = d.gives word_usable in
          (d.usable_done.1 word_usable, (one_word code J msg e).only c.out_after g.is_codeword g.agreeing)

  gives_relation : {f : List ℕ} → dependent code J ≡ true → relations code J ≡ f ∷ [] → Gives code.k (relation_outcome code J) f
  unfolding relations
  gives_relation d e c o fits =
      let r = (demand3 code done).relation J c o j fits in
      let g = r.gives d in (
        r.dependent_done.1 d,
        in_one e (in_filter (λ f. eqb (leading f) 1 && zero_on code J f) (message_in code done c.out_after g.is_function)
            (both_true (eqb (leading c.out_after) 1) (zero_on code J c.out_after) (eq-eqb _ _ g.is_leading) g.is_zero)),
      )

-- ---- Points

gives_points : (C : Curve) (points : List Point) → coefficients_below (size 2) C ≡ true → singular (galois 2) C ≡ false → affine_points (galois 2) C ≡ points
    → Lists C (map (λ P. P.x) points) (map (λ P. P.y) points)
unfolding points_outcome
gives_points C points b s e bx by lx ly =
    check_true _ _ refl ∙ check_true _ _ b ∙ check_true _ _ (ap not s)
    ∙ check_true _ _ (both_true (eqb (length bx) pointRoom) (eqb (length by) pointRoom) (eq-eqb _ _ lx) (eq-eqb _ _ ly))
    ∙ ap (λ p. listing p bx by) e
    ∙ ap (λ k. counted k (written (map (λ P. P.x) points) bx, written (map (λ P. P.y) points) by)) (sym (length-map points (λ P. P.x)))

-- the curves are not singular, but for that with all coefficients zero
smooth_A : singular (galois 2) (A 1).curve ≡ false
unfolding A ◌⊕◌ rows modulus width size product digits horner clmul times_x reduce mul on_curve singular_at singular
smooth_A = refl

smooth_B : singular (galois 2) (B 1).curve ≡ false
unfolding B ◌⊕◌ rows modulus width size product digits horner clmul times_x reduce mul on_curve singular_at singular
smooth_B = refl

smooth_none : singular (galois 2) (curve 0 0 1 0 2) ≡ false
unfolding ◌⊕◌ rows modulus width size product digits horner clmul times_x reduce mul on_curve singular_at singular
smooth_none = refl

zero_3 : (m : ℕ) → IsField m → (bx by : List ℕ) → points_outcome m (curve 0 0 0 0 0) bx by ≡ refused Singular
unfolding points_outcome
zero_3 m h bx by =
    check_true _ _ (field_true h) ∙ check_true _ _ (zero_below (galois_field h)) ∙ check_false _ _ (ap not (zero_singular (galois_field h)))

-- ---- Pack

gives_packed : (code : Code) → code_answer code ≡ Done → code.field ≡ 6 → code.k ≡ 5
    → pack_block_outcome code (pos 0 ∷ pos 32767 ∷ []) 5 ≡ accepted (3 ∷ 58 ∷ 7 ∷ 63 ∷ 63 ∷ [])
unfolding width rows
gives_packed code done f k =
    check_done code done _ ∙ check_true _ _ (eq-eqb 5 code.k (sym k)) ∙ ap (λ m. pack_outcome (width m) (pos 0 ∷ pos 32767 ∷ []) 5) f ∙ hour-cases.symbols

-- a choice with a relation is dependent
four_dependent : dependent (A 4) (1 ∷ 2 ∷ 3 ∷ 4 ∷ []) ≡ true
unfolding A size width rows choice places all_places places_differ
four_dependent =
    let (a2, a3, a4, a5) = cases.accepted_A in
    passes _
    (λ d. let e = sym cases.four_relation ∙ (on-codewords (A 4) a4).no_relation _ refl (dependent_usable (A 4) _ d) in let z : ◌≡◌ {A = ℕ} 1 0 = ap length e in omega (arith, z))

-- THEOREM
pub starred : Starred
unfolding A B size width rows unit_message choice places all_places places_differ message symbols count
starred =
    let (a2, a3, a4, a5) = cases.accepted_A in
    let b2 = cases.accepted_B in
    record {
      definitions = cases;
      hours = hour-cases;
      sheet = sheet-cases;
      points_A = gives_points (A 1).curve _ refl smooth_A cases.points_A;
      points_B = gives_points (B 1).curve _ refl smooth_B cases.points_B;
      no_points = gives_points (curve 0 0 1 0 2) [] refl smooth_none cases.no_points;
      all_zero_3 = zero_3;
      unit_0 = gives_function (A 5) a5 _ refl _ refl cases.unit_0;
      unit_1 = gives_function (A 5) a5 _ refl _ refl cases.unit_1;
      unit_2 = gives_function (A 5) a5 _ refl _ refl cases.unit_2;
      unit_3 = gives_function (A 5) a5 _ refl _ refl cases.unit_3;
      unit_4 = gives_function (A 5) a5 _ refl _ refl cases.unit_4;
      pair_12 = λ msg c o m f. ((demand3 (A 2) a2).of_systematic_word _ msg c o refl m f).dependent_12.1 cases.pair_A;
      function_B = gives_function (B 2) b2 _ refl _ refl cases.function_B;
      word_B = gives_word (B 2) b2 _ refl _ refl cases.word_B;
      line_12 = λ msg c o m f. ((demand3 (A 3) a3).of_systematic_word _ msg c o refl m f).dependent_12.1 cases.line_A;
      line_relation = gives_relation (A 3) a3 _ refl cases.line_A cases.line_relation;
      line_pick = λ c o f.
          let ranked : List ℕ = 3 ∷ 5 ∷ 7 ∷ 1 ∷ [] in
          let p = (demand3 (A 3) a3).pick_more ranked c o refl (omega arith) f in
          (p.done, p.ranks ∙ sym ((on-codewords (A 3) a3).pick_more ranked refl (omega arith)).ranks ∙ cases.line_pick);
      four_relation = gives_relation (A 4) a4 _ refl four_dependent cases.four_relation;
      rebuilt = gives_rebuilt (A 5) a5 _ refl _ refl cases.rebuilt;
      not_rebuilt_14 = λ c o f. ((demand3 (A 5) a5).rebuild_more (1 ∷ 2 ∷ 3 ∷ 5 ∷ 8 ∷ 4 ∷ []) _ c o refl refl refl (omega arith) f).none_14.1 (ap length cases.not_rebuilt);
      packed_6 = gives_packed;
    }
