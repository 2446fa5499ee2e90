-- Demand 3: past its tests an outcome is decided by whether the places are dependent, and what it then holds is by the theorem on codewords the one word,
-- function or relation.
use Prim.Native.Nat.{ℕ, ◌*◌, ◌-◌, ◌<◌, ◌≤◌}
use mathlib.Core.Path.{◌≡◌, refl, sym, ◌∙◌, ap, subst}
use mathlib.Core.Bool.{Bool, true, false, not, cond, ◌&&◌}
use mathlib.Core.Logic.{inl, inr, ◌⊎◌, ⊎_elim, ◌↔◌}
use mathlib.Core.List.{List, [], ◌∷◌}
use native.Mathlib.Omega.{arith}
use lib.Dec.{eqb}
use lib.ListN.{length, take}
use borrow.Author.Tests.{eq-eqb, ne_eqb, le-leb, not-false}
use Rattle.basics.specs.declared.Refusal.{Refusal}
use Rattle.basics.specs.declared.Refusal.TheVariants.{Length, Dependent, TooFew, NoCodeword, Independent}
use Rattle.basics.specs.Outcome.{Answer, Done, Refused, Outcome, accepted, check, Meets}
use Rattle.basics.proofs.Lists.{both_true, both_left, both_right}
use Rattle.basics.proofs.Outcomes.{meets_as}
use Rattle.elliptic.specs.Functions.{nonzero}
use Rattle.codewords.specs.Code.{Code, n, code_answer, check_code}
use Rattle.codewords.specs.Codewords.{index, unit_message, places, choice, symbols, message, functions, agreeing, count, agreed, systematic_word, zero_on, dependent, usable, pick}
use Rattle.codewords.specs.Demand3.{Systematic}
use Rattle.codewords.proofs.Tests.{fails, not_both, any_false, true_any}
use Rattle.codewords.proofs.Accepted.{accepted_done}
use Rattle.codewords.proofs.Places.{choice_length, message_listed}
use Rattle.codewords.proofs.Choice.{usable_true, dependent_usable}
use Rattle.codewords.proofs.Demand3.{demand3 as on-codewords, unit_message_lem}
use Rattle.solving.specs.Tests.{Lent, cleared, check_length, check_room, check_places, check_symbols}
use Rattle.coder.specs.Outcomes.{systematic_function_outcome, systematic_word_outcome, matrix_outcome, relation_outcome, pick_outcome, rebuild_outcome}
use Rattle.demands.specs.Call.{Call, Of, Fits}
use Rattle.demands.specs.Demand3.{Demand3, OneWord, OneFunction, OneRelation, UnlessDependent, IfDependent, PickedMore, RebuiltMore, row_of}
use Rattle.demands.proofs.Passing.{Decided, decided, accepted_on, on, code_on, length_on, places_on, symbols_on, fits_on, choice_are_places, message_symbols, places_most}
use Rattle.demands.proofs.Ones.{one_word, one_agreed, agreed_some, in_message, message_in, the_function, the_relation}
use Rattle.demands.proofs.Rows.{the_rows}

-- ---- the last tests

module _ (code : Code) (J : List ℕ) where
  usable_false : usable code J ≡ false → dependent code J ≡ true
  unfolding usable
  usable_false h = not-false _ h

  -- a call that is decided by whether the places are usable, and one that is decided by whether they are dependent
  unless : (claim : List ℕ → Type 0) {l : Lent} (c : Call) → Decided (usable code J) Dependent l c.answer (c.out_after, c.work_after)
      → (usable code J ≡ true → claim l.0) → UnlessDependent code J claim c
  unless claim c d h =
      record {
        dependent_12 = (λ e. usable_false (d.refuses.0 e), λ e. d.refuses.1 (dependent_usable code J e));
        usable_done = d.done;
        gives = λ u. subst claim (sym (ap (λ (m : Lent). m.0) (d.gives u))) (h u);
      }

  whenever : (claim : List ℕ → Type 0) {l : Lent} (c : Call) → Decided (dependent code J) Independent l c.answer (c.out_after, c.work_after)
      → (dependent code J ≡ true → claim l.0) → IfDependent code J claim c
  whenever claim c d h =
      record {
        usable_15 = (λ e. dependent_usable code J (d.refuses.0 e), λ u. d.refuses.1 (usable_true code J u));
        dependent_done = d.done;
        gives = λ e. subst claim (sym (ap (λ (m : Lent). m.0) (d.gives e))) (h e);
      }

  -- the test of number 12 in Pick and Rebuild, with k places and with more
  free_full : length J ≡ code.k → not (eqb (length J) code.k && dependent code J) ≡ usable code J
  unfolding usable
  free_full e = ap (λ b. not (b && dependent code J)) (eq-eqb _ _ e)

  free_more : code.k < length J → not (eqb (length J) code.k && dependent code J) ≡ true
  free_more h = ap (λ b. not (b && dependent code J)) (ne_eqb (length J) code.k (λ e. omega arith))

  -- the last tests of Pick and Rebuild
  abbrev pick_last : List ℕ → Outcome Lent
  pick_last work = check (not (eqb (length J) code.k && dependent code J)) Dependent (accepted (pick code J, cleared work))

  abbrev rebuild_last : List ℕ → List ℕ → Outcome Lent
  rebuild_last us work =
      check (not (eqb (length J) code.k && dependent code J)) Dependent
      (check (agreed code J us) NoCodeword (accepted (systematic_word code J us, cleared work)))

  free_on : {M : Type 0} (o : Outcome M) {r : Answer} {old new : M} → length J ≡ code.k
      → Meets (check (not (eqb (length J) code.k && dependent code J)) Dependent o) r old new → Meets (check (usable code J) Dependent o) r old new
  free_on o e m = meets_as (ap (λ b. check b Dependent o) (sym (free_full e))) m

-- a test that holds wherever the one before it does
check_sure : {M : Type 0} (b : Bool) {t : Bool} (e d : Refusal) (o : Outcome M) → (b ≡ true → t ≡ true) → check b e o ≡ check b e (check t d o)
unfolding check
check_sure true e d o h = rw (h refl)
check_sure false e d o h = refl

-- ---- the operations, past their tests

module _ (code : Code) (done : code_answer code ≡ Done) where
  exactly_one : (J : List ℕ) → choice code J ≡ true
      → ((msg : List ℕ) → message code msg ≡ true → count code J msg ≡ 1) ↔ ((f : List ℕ) → message code f ≡ true → nonzero f ≡ true → zero_on code J f ≡ false)
  unfolding dependent
  exactly_one J j = (
    λ h f m z.
        let u = ((on-codewords code done).usable_exactly J _ j (unit_message_lem code (accepted_done code done) 0)).1 (h _ (unit_message_lem code (accepted_done code done) 0)) in
        fails (zero_on code J f)
        (λ t. not_both (true_any (λ f. nonzero f && zero_on code J f) (message_in code done f m) (both_true (nonzero f) (zero_on code J f) z t)) (usable_true code J u)),
    λ h msg m. ((on-codewords code done).usable_exactly J msg j m).0 (dependent_usable code J (none h)),
  )
    where
      none : ((f : List ℕ) → message code f ≡ true → nonzero f ≡ true → zero_on code J f ≡ false) → dependent code J ≡ false
      none h =
          any_false (λ f. nonzero f && zero_on code J f) (functions code)
          (λ f i b. not_both (both_right (nonzero f) (zero_on code J f) b) (h f (in_message code done i) (both_left (nonzero f) (zero_on code J f) b)))

  -- ---- Rebuild and Pick, of any number of places from k on, up to number 13

  rebuild_on : (J us : List ℕ) (c : Call) → Of (rebuild_outcome code J us) c → places code J ≡ true → symbols code us ≡ true → length us ≡ length J
      → code.k ≤ length J → Fits (n code) c → Of (λ out work. rebuild_last code J us work) c
  rebuild_on J us c h p s e least f =
      on TooFew (le-leb _ _ least)
      (symbols_on code us s (places_on code J p (fits_on f (length_on us e (on Length (le-leb _ _ (places_most code J p)) (code_on code done h))))))

  pick_on : (ranked : List ℕ) (c : Call) → Of (pick_outcome code ranked) c → places code ranked ≡ true
      → code.k ≤ length ranked → Fits code.k c → Of (λ out work. pick_last code ranked work) c
  pick_on ranked c h p least f =
      on TooFew (le-leb _ _ least) (places_on code ranked p (fits_on f (on Length (le-leb _ _ (places_most code ranked p)) (code_on code done h))))

  module _ (J msg : List ℕ) (c : Call) (j : choice code J ≡ true) (m : message code msg ≡ true) where
    one : usable code J ≡ true → Systematic code J msg
    one = (on-codewords code done).at_usable J msg j m

    -- the tests from number 8 to 11 of Systematic function and Systematic word
    systematic_on : {size : ℕ} (o : Outcome Lent) → Fits size c
        → Of (λ out work. check_code code (check_length J code.k (check_length msg code.k (check_length out size (check_room work (check_places code J (check_symbols code msg o))))))) c
        → Of (λ out work. o) c
    systematic_on o f h =
        symbols_on code msg (message_symbols code msg m) (places_on code J (choice_are_places code J j)
        (fits_on f (length_on msg (message_listed code msg m).size (length_on J (choice_length code J j) (code_on code done h)))))

    of_systematic_word : Of (systematic_word_outcome code J msg) c → Fits (n code) c → UnlessDependent code J (OneWord code J msg) c
    of_systematic_word h f =
        unless code J (OneWord code J msg) c (decided (usable code J) (systematic_on _ f h)) (λ u. one_word code J msg (one u).one_word)

    of_systematic_function : Of (systematic_function_outcome code J msg) c → Fits code.k c → UnlessDependent code J (OneFunction code J msg) c
    of_systematic_function h f =
        unless code J (OneFunction code J msg) c (decided (usable code J) (systematic_on _ f h)) (λ u. the_function code done J msg (one u))

    rebuild : Of (rebuild_outcome code J msg) c → Fits (n code) c → UnlessDependent code J (OneWord code J msg) c
    rebuild h f =
        unless code J (OneWord code J msg) c
        (decided (usable code J) (meets_as (check_sure (usable code J) _ _ _ (λ u. one_agreed code J msg (one u).one_word))
        (free_on code J _ full (rebuild_on J msg c h (choice_are_places code J j) (message_symbols code msg m) ((message_listed code msg m).size ∙ sym full) (omega (arith, full)) f))))
        (λ u. one_word code J msg (one u).one_word)
      where
        full : length J ≡ code.k
        full = choice_length code J j

  module _ (J : List ℕ) (c : Call) (j : choice code J ≡ true) where
    matrix_call : Of (matrix_outcome code J) c → Fits (code.k * n code) c
        → UnlessDependent code J (λ out. (i : ℕ) → i < code.k → OneWord code J (unit_message code.k (index i)) (row_of (n code) i out)) c
    matrix_call h f =
        unless code J _ c
        (decided (usable code J) (places_on code J (choice_are_places code J j) (fits_on f (length_on J (choice_length code J j) (code_on code done h)))))
        (the_rows code done J j)

    relation_call : Of (relation_outcome code J) c → Fits code.k c → IfDependent code J (OneRelation code J) c
    relation_call h f =
        whenever code J (OneRelation code J) c
        (decided (dependent code J) (places_on code J (choice_are_places code J j) (fits_on f (length_on J (choice_length code J j) (code_on code done h)))))
        (λ d. the_relation code done J ((on-codewords code done).related J j d))

    pick_call : Of (pick_outcome code J) c → Fits code.k c → UnlessDependent code J (λ out. out ≡ J) c
    pick_call h f =
        let full = choice_length code J j in
        unless code J (λ out. out ≡ J) c
        (decided (usable code J) (free_on code J _ full (pick_on J c h (choice_are_places code J j) (omega arith) f)))
        (λ u. (on-codewords code done).pick_all J j ∙ ap (λ b. cond b J (take (code.k - 1) J)) u)

  pick_more : (ranked : List ℕ) (c : Call) → Of (pick_outcome code ranked) c → places code ranked ≡ true → code.k < length ranked
      → Fits code.k c → PickedMore code ranked c
  pick_more ranked c h p more f =
      let (r, l) = accepted_on (on Dependent (free_more code ranked more) (pick_on ranked c h p (omega arith) f)) in
      let e = sym (ap (λ (m : Lent). m.0) l) in
      let k = (on-codewords code done).pick_more ranked p more in
      record { done = r; ranks = sym e ∙ k.ranks; is_choice = subst (λ l. choice code l ≡ true) e k.is_choice; works = subst (λ l. usable code l ≡ true) e k.works }

  module _ (J us : List ℕ) (p : places code J ≡ true) (more : code.k < length J) where
    listed : (agreeing code J us ≡ []) ⊎ (agreeing code J us ≡ systematic_word code J us ∷ [])
    listed = (on-codewords code done).at_more J us p more

    not_agreed : agreed code J us ≡ false → count code J us ≡ 0
    unfolding count
    not_agreed g = ⊎_elim (λ e. ap length e) (λ e. absurd (not_both (one_agreed code J us e) g)) listed

    count_none : count code J us ≡ 0 → agreed code J us ≡ false
    unfolding count
    count_none z = fails (agreed code J us) (λ g. ⊎_elim (agreed_some code J us g) (λ e. let o = ap length e in omega (arith, z, o)) listed)

    agreed_word : agreed code J us ≡ true → OneWord code J us (systematic_word code J us)
    agreed_word g = ⊎_elim (λ e. absurd (agreed_some code J us g e)) (one_word code J us) listed

    rebuild_more : (c : Call) → Of (rebuild_outcome code J us) c → symbols code us ≡ true → length us ≡ length J → Fits (n code) c → RebuiltMore code J us c
    rebuild_more c h s e f =
        record {
          none_14 = (λ a. not_agreed (d.refuses.0 a), λ z. d.refuses.1 (count_none z));
          else_done = by (agreed code J us) refl;
          gives = λ a. let g = d.done.0 a in subst (OneWord code J us) (sym (ap (λ (m : Lent). m.0) (d.gives g))) (agreed_word g);
        }
      where
        d : Decided {M = Lent} (agreed code J us) NoCodeword (systematic_word code J us, cleared c.work) c.answer (c.out_after, c.work_after)
        d = decided (agreed code J us) (on Dependent (free_more code J more) (rebuild_on J us c h p s e (omega arith) f))

        by : (b : Bool) → agreed code J us ≡ b → (c.answer ≡ Done) ⊎ (c.answer ≡ Refused NoCodeword)
        by true g = inl (d.done.1 g)
        by false g = inr (d.refuses.1 g)

-- THEOREM
pub demand3 : (code : Code) → code_answer code ≡ Done → Demand3 code
demand3 code done =
    record {
      exactly_one = exactly_one code done;
      none_or_q = (on-codewords code done).at_dependent;
      of_systematic_word = λ J msg c h j m f. of_systematic_word code done J msg c j m h f;
      of_systematic_function = λ J msg c h j m f. of_systematic_function code done J msg c j m h f;
      matrix = λ J c h j f. matrix_call code done J c j h f;
      relation = λ J c h j f. relation_call code done J c j h f;
      pick = λ J c h j f. pick_call code done J c j h f;
      rebuild = λ J msg c h j m f. rebuild code done J msg c j m h f;
      pick_more = pick_more code done;
      rebuild_more = λ J us c h p s e more f. rebuild_more code done J us p more c h s e f;
    }
