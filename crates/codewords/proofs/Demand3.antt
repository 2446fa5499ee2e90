-- Demand 3 holds of every accepted code.
use Rattle.basics.specs.Outcome.{Done}
use Prim.Native.Nat.{ℕ, ◌-◌, ◌<◌}
use mathlib.Core.Path.{◌≡◌, refl, sym, ◌∙◌, ap, subst}
use mathlib.Core.Bool.{Bool, true, false, cond, ◌&&◌}
use mathlib.Core.Logic.{inl, inr, ◌⊎◌, ⊎_elim, ◌↔◌}
use mathlib.Core.List.Memᴰ.{head as here}
use mathlib.Core.List.{List, [], ◌∷◌, map, Memᴰ as In}
use native.Mathlib.Omega.{arith}
use lib.Dec.{eqb, ltb}
use lib.ListN.{length, get_or}
use borrow.Author.Tests.{eqb-true, eq-eqb, lt-ltb}
use Rattle.basics.proofs.Lists.{both_left, both_right, both_true, length_table, get_or_table, all_table}
use Rattle.elliptic.specs.Functions.{nonzero, leading, degree}
use Rattle.elliptic.proofs.Points.{All.nil}
use Rattle.elliptic.proofs.Weights.{weight_le}
use Rattle.elliptic.proofs.Values.{zeros_leading, lead_degree}
use Rattle.elliptic.proofs.Kernel.{values_agree, known, few, lead_zeros}
use Rattle.elliptic.proofs.Zeros.{zeros}
use Rattle.codewords.specs.Code.{Code, arithmetic, q, code_answer}
use Rattle.codewords.specs.Codewords.{the, index, choice, symbols, message, functions, word, coefficients, agreeing, count, agreeing_functions, unit_message}
use Rattle.codewords.specs.Codewords.{systematic_word, systematic_function, row, matrix, zero_on, dependent, usable, relations, relation}
use Rattle.codewords.specs.Demand3.{Demand3, Systematic, Related}
use Rattle.codewords.specs.Computed.{points_of}
use Rattle.codewords.proofs.Tests.{not_both, true_any, filter_in}
use Rattle.codewords.proofs.Counting.{Unique, only, empty}
use Rattle.codewords.proofs.Accepted.{Accepted, laws, accepted_done}
use Rattle.codewords.proofs.Coefficients.{nonzero_true, coefficients_listed}
use Rattle.codewords.proofs.Places.{Places, length_points, places_true, choice_places, choice_length, message_listed, true_message, different_points}
use Rattle.codewords.proofs.Words.{one_list}
use Rattle.codewords.proofs.Choice.{TakesAt, k_suc, agreeing_words, count_functions, usable_true, dependent_usable, unique_agreeing, agreeing_in, related_function, the_relation, solution_takes, one_function, none_or_all, one_relation}
use Rattle.codewords.proofs.Ranks.{more_claim, all_claim}

pub the_one : {l : List (List ℕ)} {f : List ℕ} → l ≡ f ∷ [] → l ≡ the l ∷ []
unfolding the
the_one e = e ∙ ap (λ l. the l ∷ []) (sym e)

-- the unit messages
pub unit_message_lem : (code : Code) → Accepted code → (i : ℕ) → message code (unit_message code.k (index i)) ≡ true
unfolding unit_message message symbols
unit_message_lem code a i =
    both_true (symbols code (unit_message code.k (index i))) _
    (all_table (λ u. ltb u (q code)) (λ j. cond (eqb j i) 1 0) code.k (λ j h. symbol (eqb j i)))
    (eq-eqb _ _ (length_table (λ j. cond (eqb j i) 1 0) code.k))
  where
    symbol : (b : Bool) → ltb (cond b 1 0) (q code) ≡ true
    symbol true = lt-ltb 1 (q code) (laws code a).one_lt
    symbol false = lt-ltb 0 (q code) (omega (arith, (laws code a).one_lt))

module _ (code : Code) (a : Accepted code) where
  at_usable : (J msg : List ℕ) → choice code J ≡ true → message code msg ≡ true → usable code J ≡ true → Systematic code J msg
  unfolding systematic_word systematic_function the
  at_usable J msg j m u =
      let P = choice_places code J j in
      let n = choice_length code J j in
      let d = usable_true code J u in
      let v = message_listed code msg m in
      let f = one_function code a P n d msg v in
      let w = agreeing_words code J msg ∙ ap (map (word code)) f in
      record {
        one_word = the_one w;
        one_function = ap (λ l. coefficients code (the l)) w ∙ one_list code a _ (solution_takes code a P n d msg v).coefficients refl ∙ ap (λ l. the l ∷ []) (sym f);
        agreeing_function = the_one f;
      }

  rows : (J : List ℕ) → choice code J ≡ true → usable code J ≡ true → (i : ℕ) → i < code.k
      → agreeing code J (unit_message code.k (index i)) ≡ get_or (matrix code J) i [] ∷ []
  unfolding matrix row
  rows J j u i h =
      (at_usable J (unit_message code.k (index i)) j (unit_message_lem code a i) u).one_word
      ∙ ap (λ r. r ∷ []) (sym (get_or_table (λ i. row code J (index i)) code.k i [] h))

  at_dependent : (J msg : List ℕ) → choice code J ≡ true → dependent code J ≡ true → (count code J msg ≡ 0) ⊎ (count code J msg ≡ q code)
  at_dependent J msg j d =
      let P = choice_places code J j in
      let n = choice_length code J j in
      none_or_all code a P n (the_relation code a P n [] nil d) msg

  usable_exactly : (J msg : List ℕ) → choice code J ≡ true → message code msg ≡ true → (usable code J ≡ true) ↔ (count code J msg ≡ 1)
  usable_exactly J msg j m = (λ u. count_functions code J msg ∙ ap length (at_usable J msg j m u).agreeing_function, by (dependent code J) refl)
    where
      by : (b : Bool) → dependent code J ≡ b → count code J msg ≡ 1 → usable code J ≡ true
      by false d e = dependent_usable code J d
      by true d e = absurd (⊎_elim (λ z. omega (arith, e, z)) (λ z. omega (arith, e, z, (laws code a).one_lt)) (at_dependent J msg j d))

  related : (J : List ℕ) → choice code J ≡ true → dependent code J ≡ true → Related code J
  unfolding relation the
  related J j d =
      let P = choice_places code J j in
      let n = choice_length code J j in
      let r = the_relation code a P n [] nil d in
      let one = one_relation code a P n r in
      let least = zeros (laws code a) (different_points code a P) (record { l = 1; nonzero = λ z. omega arith; lead = r.lead; zeros = r.zeros }) in
      record {
        one_relation = the_one one;
        is_function = ap (λ l. message code (the l)) one ∙ true_message code (coefficients_listed (laws code a) (related_function code a P n r));
        is_nonzero = ap (λ l. nonzero (the l)) one ∙ nonzero_true _ (λ z. omega (arith, lead_zeros (laws code a) r.lead z));
        full_degree =
            ap (λ l. degree (the l)) one ∙ lead_degree r.lead (λ z. omega arith)
            ∙ omega (arith, least, length_points code J, weight_le (code.k - 1), k_suc code a);
      }

  no_relation : (J : List ℕ) → usable code J ≡ true → relations code J ≡ []
  unfolding relations dependent
  no_relation J u =
      empty (relations code J)
      (λ f i.
      let (j, h) = filter_in (λ f. eqb (leading f) 1 && zero_on code J f) (functions code) i in
      let one = eqb-true (leading f) 1 (both_left (eqb (leading f) 1) _ h) in
      not_both
      (true_any (λ f. nonzero f && zero_on code J f) j
      (both_true (nonzero f) (zero_on code J f) (nonzero_true f (λ z. omega (arith, one, zeros_leading z))) (both_right (eqb (leading f) 1) _ h)))
      (usable_true code J u))

  -- above k places the values decide
  module _ (J us : List ℕ) (P : Places code J) (n : code.k < length J) where
    same_function : {f g : List ℕ} → TakesAt code J us f → TakesAt code J us g → f ≡ g
    same_function {f} {g} s t =
        known (laws code a) (few (laws code a) (different_points code a P) (omega (arith, length_points code J))) f g
        s.coefficients t.coefficients (values_agree (arithmetic code) f g (points_of code J) (s.takes ∙ sym t.takes))

    at_more : (agreeing code J us ≡ []) ⊎ (agreeing code J us ≡ systematic_word code J us ∷ [])
    unfolding systematic_word
    at_more = by (agreeing_functions code J us) refl (unique_agreeing code a J us)
      where
        by : (l : List (List ℕ)) → agreeing_functions code J us ≡ l → Unique l → (agreeing code J us ≡ []) ⊎ (agreeing code J us ≡ the (agreeing code J us) ∷ [])
        by [] e u = inl (agreeing_words code J us ∙ ap (map (word code)) e)
        by (f ∷ l) e u = inr (the_one (agreeing_words code J us ∙ ap (map (word code)) (e ∙ only f u (here refl) (λ g i. same_function (takes g i) (takes f (here refl))))))
          where
            takes : (g : List ℕ) → In g (f ∷ l) → TakesAt code J us g
            takes g i = agreeing_in code a P us (subst (λ l. In g l) (sym e) i)

-- THEOREM
pub demand3 : (code : Code) → code_answer code ≡ Done → Demand3 code
demand3 code done =
    record {
      usable_exactly = usable_exactly code a;
      no_relation = λ J j. no_relation code a J;
      at_usable = at_usable code a;
      rows = rows code a;
      at_dependent = λ J msg j m. at_dependent code a J msg j;
      related = related code a;
      pick_more = λ ranked j n.
          let (r, i, w) = more_claim code a ranked (places_true code ranked j) (omega arith) n in
          record { ranks = r; is_choice = i; works = w };
      pick_all = λ ranked j. let n = choice_length code ranked j in all_claim code a ranked (choice_places code ranked j) (omega arith) n;
      at_more = λ J us j n. at_more code a J us (places_true code J j) n;
    }
  where
    a : Accepted code
    a = accepted_done code done
