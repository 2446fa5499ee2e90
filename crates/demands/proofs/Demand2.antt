-- Demand 2: past their tests Plain gives the word of a function and Recover is decided by whether there is a function, and by the theorem on codewords there is one.
use Prim.Native.Nat.{ℕ, zero, suc, ◌+◌, ◌*◌, ◌-◌, ◌<◌, ◌≤◌, zero-le, suc-le-suc}
use mathlib.Core.Path.{◌≡◌, refl, sym, ◌∙◌, ap, ap₂, subst, fun_ext}
use mathlib.Core.Bool.{Bool, true}
use mathlib.Core.Logic.{inl, inr, ◌⊎◌, ◌↔◌}
use mathlib.Core.List.Memᴰ.{map as in_map}
use mathlib.Core.List.{List, [], ◌∷◌, map}
use native.Mathlib.Omega.{arith}
use lib.Dec.{eqb, ltb}
use lib.ListN.{length, get_or}
use borrow.Author.Tests.{eq-eqb, ltb-true, lt-ltb}
use Rattle.basics.specs.declared.Refusal.TheVariants.{Length, NoCodeword}
use Rattle.basics.specs.Outcome.{Answer, Done, Meets}
use Rattle.basics.specs.Lists.{all}
use Rattle.basics.proofs.Lists.{both_left, both_right, both_true}
use Rattle.field.specs.Sum.{◌⊕◌}
use Rattle.field.specs.Field.{Arithmetic, Field, pow}
use Rattle.field.proofs.Laws.{ring, zero_lt, mul_one}
use Rattle.elliptic.specs.declared.Point.{Point}
use Rattle.elliptic.specs.Curve.{in_field}
use Rattle.elliptic.specs.Functions.{weight, degree, monomial, sum_from, value}
use Rattle.codewords.specs.Code.{Code, arithmetic, q, n, points, code_answer}
use Rattle.codewords.specs.Codewords.{symbols, message, word, codewords, codeword, recovered}
use Rattle.codewords.proofs.Accepted.{accepted_done, laws}
use Rattle.codewords.proofs.Places.{message_listed}
use Rattle.codewords.proofs.Demand2.{demand2 as on-codewords}
use Rattle.blocks.specs.Outcomes.{plain_outcome}
use Rattle.solving.specs.Tests.{Lent, cleared}
use Rattle.coder.specs.Outcomes.{recover_outcome}
use Rattle.demands.specs.Call.{Call, Of, Fits}
use Rattle.demands.specs.Demand2.{Demand2, Monomials, Coded, Decoded, values_of, AreValues}
use Rattle.demands.proofs.Passing.{Decided, decided, accepted_on, on, code_on, length_on, symbols_on, fits_on, message_symbols}
use Rattle.demands.proofs.Ones.{message_in, in_codeword, is_recovered}

-- ---- the monomials

module _ (F : Arithmetic) (K : Field F) (P : Point) (x_lt : P.x < F.q) (y_lt : P.y < F.q) where
  infixl 70 ◌·◌
  open F use {◌·◌}

  power : (a : ℕ) → monomial F (2 * a - 1) P ≡ pow ◌·◌ P.x a
  unfolding monomial pow
  power zero = refl
  power (suc zero) = sym (mul_one K P.x x_lt)
  power (suc (suc a)) =
      let i : 2 * suc (suc a) - 1 ≡ suc (suc (suc (2 * a))) = omega arith in
      let j : suc (2 * a) ≡ 2 * suc a - 1 = omega arith in
      ap (λ i. monomial F i P) i ∙ ap (λ i. P.x · monomial F i P) j ∙ ap (λ t. P.x · t) (power (suc a))

  power_y : (a : ℕ) → monomial F (2 * a + 2) P ≡ pow ◌·◌ P.x a · P.y
  unfolding monomial pow
  power_y zero = sym (K.one_mul P.y y_lt)
  power_y (suc a) =
      let i : 2 * suc a + 2 ≡ suc (suc (suc (2 * a + 1))) = omega arith in
      let j : suc (2 * a + 1) ≡ 2 * a + 2 = omega arith in
      ap (λ i. monomial F i P) i ∙ ap (λ i. P.x · monomial F i P) j ∙ ap (λ t. P.x · t) (power_y a) ∙ sym (K.mul_assoc P.x (pow ◌·◌ P.x a) P.y)

weight_x : (a : ℕ) → weight (2 * a - 1) ≡ 2 * a
unfolding weight
weight_x zero = refl
weight_x (suc a) = let i : 2 * suc a - 1 ≡ suc (2 * a) = omega arith in ap weight i ∙ omega arith

weight_y : (a : ℕ) → weight (2 * a + 2) ≡ 2 * a + 3
unfolding weight
weight_y a = let i : 2 * a + 2 ≡ suc (2 * a + 1) = omega arith in ap weight i ∙ omega arith

each_index : (i : ℕ) → ((a : ℕ) × (i ≡ 2 * a - 1)) ⊎ ((a : ℕ) × (i ≡ 2 * a + 2))
each_index zero = inl (0, refl)
each_index (suc zero) = inl (1, refl)
each_index (suc (suc i)) = by i (each_index i)
  where
    by : (i : ℕ) → ((a : ℕ) × (i ≡ 2 * a - 1)) ⊎ ((a : ℕ) × (i ≡ 2 * a + 2)) → ((a : ℕ) × (suc (suc i) ≡ 2 * a - 1)) ⊎ ((a : ℕ) × (suc (suc i) ≡ 2 * a + 2))
    by zero r = inr (0, refl)
    by (suc i) (inl (a, e)) = inl (suc a, omega (arith, e))
    by (suc i) (inr (a, e)) = inr (suc a, omega (arith, e))

no_weight_1 : (i : ℕ) → weight i ≡ 1 → ⊥
unfolding weight
no_weight_1 zero e = omega (arith, e)
no_weight_1 (suc i) e = omega (arith, e)

-- ---- functions of more or of fewer than k coefficients

-- the first k coefficients, and zeros where there are none
unfoldable cut : ℕ → List ℕ → List ℕ
cut zero f = []
cut (suc k) [] = 0 ∷ cut k []
cut (suc k) (c ∷ cs) = c ∷ cut k cs

length_cut : (k : ℕ) (f : List ℕ) → length (cut k f) ≡ k
unfolding cut
length_cut zero f = refl
length_cut (suc k) [] = ap suc (length_cut k [])
length_cut (suc k) (c ∷ cs) = ap suc (length_cut k cs)

all_cut : (p : ℕ → Bool) → p 0 ≡ true → (k : ℕ) (f : List ℕ) → all p f ≡ true → all p (cut k f) ≡ true
unfolding cut
all_cut p z zero f h = refl
all_cut p z (suc k) [] h = both_true (p 0) (all p (cut k [])) z (all_cut p z k [] refl)
all_cut p z (suc k) (c ∷ cs) h = both_true (p c) (all p (cut k cs)) (both_left (p c) (all p cs) h) (all_cut p z k cs (both_right (p c) (all p cs) h))

module _ {F : Arithmetic} (K : Field F) where
  infixl 70 ◌·◌
  open F use {◌·◌}

  no_term : (m : ℕ) → 0 · m ⊕ 0 ≡ 0
  no_term m = simp ring

  -- coefficients past the first k that are all zero do not count
  cut_sum : (k i : ℕ) (f : List ℕ) (P : Point) → ((j : ℕ) → k ≤ j → get_or f j 0 ≡ 0) → sum_from F i (cut k f) P ≡ sum_from F i f P
  unfolding cut sum_from
  cut_sum zero i [] P h = refl
  cut_sum zero i (c ∷ cs) P h =
      sym (ap₂ (λ c t. c · monomial F i P ⊕ t) (h 0 zero-le) (sym (cut_sum zero (suc i) cs P (λ j l. h (suc j) zero-le))) ∙ no_term (monomial F i P))
  cut_sum (suc k) i [] P h = ap (λ t. 0 · monomial F i P ⊕ t) (cut_sum k (suc i) [] P (λ j l. refl)) ∙ no_term (monomial F i P)
  cut_sum (suc k) i (c ∷ cs) P h = ap (λ t. c · monomial F i P ⊕ t) (cut_sum k (suc i) cs P (λ j l. h (suc j) (suc-le-suc l)))

-- ---- Plain and Recover

module _ (code : Code) (done : code_answer code ≡ Done) where
  monomials : (P : Point) → in_field (arithmetic code) P ≡ true → Monomials code P
  monomials P h =
      let K = laws code (accepted_done code done) in
      let x = ltb-true P.x (q code) (both_left (ltb P.x (q code)) (ltb P.y (q code)) h) in
      let y = ltb-true P.y (q code) (both_right (ltb P.x (q code)) (ltb P.y (q code)) h) in
      record {
        of_x = λ a. (weight_x a, power (arithmetic code) K P x y a);
        of_y = λ a. (weight_y a, power_y (arithmetic code) K P x y a);
        all = each_index;
        none_1 = no_weight_1;
      }

  word_codeword : (f : List ℕ) → message code f ≡ true → codeword code (word code f) ≡ true
  unfolding codeword codewords
  word_codeword f m = in_codeword code (in_map (word code) (message_in code done f m))

  is_values : (w : List ℕ) → (codeword code w ≡ true) ↔ ((f : List ℕ) × (message code f ≡ true) × (values_of code f ≡ w))
  unfolding word
  is_values w = (
    λ h. (recovered code w, is_recovered code done w h, (on-codewords code done).word_recovered w h),
    λ (f, m, e). subst (λ w. codeword code w ≡ true) e (word_codeword f m),
  )

  -- the k coefficients of a function of weighted degree at most k, and their values
  cut_message : (f : List ℕ) → symbols code f ≡ true → message code (cut code.k f) ≡ true
  unfolding message symbols
  cut_message f s =
      let zero_below = lt-ltb 0 (q code) (zero_lt (laws code (accepted_done code done))) in
      both_true (symbols code (cut code.k f)) (eqb (length (cut code.k f)) code.k)
      (all_cut (λ u. ltb u (q code)) zero_below code.k f s) (eq-eqb _ _ (length_cut code.k f))

  cut_values : (f : List ℕ) → degree f ≤ code.k → values_of code (cut code.k f) ≡ values_of code f
  unfolding value
  cut_values f d =
      ap (λ v. map v (points code)) (fun_ext (λ P. cut_sum (laws code (accepted_done code done)) code.k 0 f P ((on-codewords code done).degree_all f d)))

  codeword_exactly : (w : List ℕ) → (codeword code w ≡ true) ↔ AreValues code w
  codeword_exactly w = (
    λ h.
        let (f, m, e) = (is_values w).0 h in
        (f, message_symbols code f m, omega (arith, (on-codewords code done).degree_most f m), sym e),
    λ (f, s, d, e). (is_values w).1 (cut code.k f, cut_message f s, cut_values f (omega (arith, d)) ∙ sym e),
  )

  plain : (f : List ℕ) (r : Answer) (old new : List ℕ) → Meets (plain_outcome code f (length old)) r old new → message code f ≡ true → length old ≡ n code
      → Coded code f r new
  unfolding word
  plain f r old new h m e =
      let (d, w) = accepted_on (symbols_on code f (message_symbols code f m) (on Length (eq-eqb _ _ e) (length_on f (message_listed code f m).size (code_on code done h)))) in
      record { done = d; values = w; is_codeword = subst (λ w. codeword code w ≡ true) (sym w) (word_codeword f m) }

  recover : (w : List ℕ) (c : Call) → Of (recover_outcome code w) c → symbols code w ≡ true → length w ≡ n code → Fits code.k c → Decoded code w c
  unfolding word
  recover w c h s e f =
      record {
        none_14 = d.refuses;
        else_done = d.done;
        is_function = λ a. let g = d.done.0 a in subst (λ l. message code l ≡ true) (sym (given g)) (is_recovered code done w g);
        values = λ a. let g = d.done.0 a in ap (word code) (given g) ∙ (on-codewords code done).word_recovered w g;
        only = λ f m e. let g = subst (λ w. codeword code w ≡ true) e (word_codeword f m) in
            sym ((on-codewords code done).recovered_word f m) ∙ ap (recovered code) e ∙ sym (given g);
      }
    where
      d : Decided {M = Lent} (codeword code w) NoCodeword (recovered code w, cleared c.work) c.answer (c.out_after, c.work_after)
      d = decided (codeword code w) (symbols_on code w s (fits_on f (length_on w e (code_on code done h))))

      given : codeword code w ≡ true → c.out_after ≡ recovered code w
      given g = ap (λ (m : Lent). m.0) (d.gives g)

  back : (f : List ℕ) (r : Answer) (old new : List ℕ) (c : Call) → Meets (plain_outcome code f (length old)) r old new → message code f ≡ true
      → length old ≡ n code → Of (recover_outcome code new) c → Fits code.k c → (c.answer ≡ Done) × (c.out_after ≡ f)
  unfolding word
  back f r old new c h m e k fits =
      let p = plain f r old new h m e in
      let sy = subst (λ w. symbols code w ≡ true) (sym p.values) ((on-codewords code done).word_symbols f m) in
      let d = recover new c k sy (ap length p.values ∙ (on-codewords code done).word_length f) fits in
      (d.else_done.1 p.is_codeword, sym (d.only f m (sym p.values)))

-- THEOREM
pub demand2 : (code : Code) → code_answer code ≡ Done → Demand2 code
demand2 code done =
    record {
      codeword_exactly = codeword_exactly code done;
      is_values = is_values code done;
      degree_most = (on-codewords code done).degree_most;
      degree_all = (on-codewords code done).degree_all;
      monomials = monomials code done;
      plain = plain code done;
      recover = recover code done;
      back = back code done;
    }
