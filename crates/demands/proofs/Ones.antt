-- A list of agreeing codewords, of coefficients or of relations that has one entry says of that entry that it is the one.
use Rattle.basics.specs.Outcome.{Done}
use Prim.Native.Nat.{ℕ}
use mathlib.Core.Path.{◌≡◌, refl, sym, ◌∙◌, ap, subst}
use mathlib.Core.Bool.{true, ◌&&◌}
use mathlib.Core.List.Memᴰ.{eq_of_singleton as in-single}
use mathlib.Core.List.Memᴰ.{head as here}
use mathlib.Core.List.{List, [], ◌∷◌, Memᴰ as In}
use lib.Dec.{eqb}
use lib.ListN.{length}
use borrow.Author.Tests.{eqb-true, eq-eqb, leb-true, le-leb}
use Rattle.basics.specs.Lists.{same}
use Rattle.basics.proofs.Lists.{both_left, both_right, both_true, same_true, same_refl}
use Rattle.elliptic.specs.Functions.{leading}
use Rattle.codewords.specs.Code.{Code, n, code_answer}
use Rattle.codewords.specs.Codewords.{the, agrees, message, functions, word, codewords, codeword, coefficients, recovered, agreeing, count, agreed, agreeing_functions, systematic_function, systematic_word, zero_on, relations, relation}
use Rattle.codewords.specs.Demand3.{Systematic, Related}
use Rattle.codewords.proofs.Tests.{any_true, true_any, filter_in, in_filter}
use Rattle.codewords.proofs.Demand2.{demand2}
use Rattle.decoding.specs.Near.{distance, radius, within, near, correctable, corrected}
use Rattle.demands.specs.Demand3.{OneWord, OneFunction, OneRelation}
use Rattle.demands.specs.Correction.{Within}

module _ {A : Type 0} {a : A} {l : List A} (e : l ≡ a ∷ []) where
  -- the entry stands in the list, and nothing else does
  pub one_in : In a l
  one_in = subst (λ l. In a l) (sym e) (here refl)

  pub in_one : {b : A} → In b l → b ≡ a
  in_one {b} i = in-single (subst (λ l. In b l) e i)

pub the_in : (l : List (List ℕ)) → (l ≡ [] → ⊥) → In (the l) l
unfolding the
the_in [] h = absurd (h refl)
the_in (a ∷ l) h = here refl

pub in_codeword : (code : Code) {w : List ℕ} → In w (codewords code) → codeword code w ≡ true
unfolding codeword
in_codeword code {w} i = true_any (same w) i (same_refl w)

pub codeword_in : (code : Code) (v : List ℕ) → codeword code v ≡ true → In v (codewords code)
unfolding codeword
codeword_in code v h = let (u, i, s) = any_true (same v) (codewords code) h in subst (λ u. In u (codewords code)) (sym (same_true v u s)) i

module _ (code : Code) (J msg : List ℕ) where
  pub one_word : {w : List ℕ} → agreeing code J msg ≡ w ∷ [] → OneWord code J msg w
  unfolding agreeing count
  one_word {w} e =
      let (i, a) = filter_in (λ w. agrees w J msg) (codewords code) (one_in e) in
      record {
        is_codeword = in_codeword code i;
        agreeing = a;
        only = λ v h g. in_one e (in_filter (λ w. agrees w J msg) (codeword_in code v h) g);
        one = ap length e;
      }

  -- some codeword agrees exactly if one is listed
  pub one_agreed : {w : List ℕ} → agreeing code J msg ≡ w ∷ [] → agreed code J msg ≡ true
  unfolding agreeing agreed
  one_agreed e = let (i, a) = filter_in (λ w. agrees w J msg) (codewords code) (one_in e) in true_any (λ w. agrees w J msg) i a

  pub agreed_some : agreed code J msg ≡ true → agreeing code J msg ≡ [] → ⊥
  unfolding agreeing agreed
  agreed_some h e =
      let (w, i, a) = any_true (λ w. agrees w J msg) (codewords code) h in
      let none : In w [] = subst (λ l. In w l) e (in_filter (λ w. agrees w J msg) i a) in
      elim none [ ]

-- the codewords within t: those that are listed, and the one that is given
module _ (code : Code) (r : List ℕ) where
  in_within : {w : List ℕ} → In w (codewords code) → within code r w ≡ true → Within code r w
  unfolding within
  in_within {w} i t = record { is_codeword = in_codeword code i; close = leb-true (distance w r) (radius code) t }

  pub within_near : {w : List ℕ} → Within code r w → In w (near code r)
  unfolding within near
  within_near {w} h = in_filter (within code r) (codeword_in code w h.is_codeword) (le-leb (distance w r) (radius code) h.close)

  pub within_correctable : {w : List ℕ} → Within code r w → correctable code r ≡ true
  unfolding near correctable
  within_correctable h = let (i, t) = filter_in (within code r) (codewords code) (within_near h) in true_any (within code r) i t

  pub the_within : correctable code r ≡ true → Within code r (corrected code r)
  unfolding near correctable corrected
  the_within h =
      let (v, j, s) = any_true (within code r) (codewords code) h in
      let (i, t) = filter_in (within code r) (codewords code) (the_in (near code r) (λ e. elim (subst (λ l. In v l) e (in_filter (within code r) j s)) [ ])) in
      in_within i t

module _ (code : Code) (done : code_answer code ≡ Done) where
  pub in_message : {f : List ℕ} → In f (functions code) → message code f ≡ true
  in_message {f} i = ((demand2 code done).functions_all f).1 (true_any (same f) i (same_refl f))

  pub message_in : (f : List ℕ) → message code f ≡ true → In f (functions code)
  message_in f m =
      let (g, i, s) = any_true (same f) (functions code) (((demand2 code done).functions_all f).0 m) in
      subst (λ g. In g (functions code)) (sym (same_true f g s)) i

  pub codeword_length : (w : List ℕ) → codeword code w ≡ true → length w ≡ n code
  codeword_length w h = ap length (sym ((demand2 code done).word_recovered w h)) ∙ (demand2 code done).word_length _

  -- what Recover gives is a function
  pub is_recovered : (w : List ℕ) → codeword code w ≡ true → message code (recovered code w) ≡ true
  unfolding coefficients
  is_recovered w h = in_message (filter_in (λ f. same (word code f) w) (functions code) (one_in ((demand2 code done).one_list w h))).0

  module _ (J : List ℕ) where
    pub the_function : (msg : List ℕ) → Systematic code J msg → OneFunction code J msg (systematic_function code J msg)
    unfolding agreeing_functions coefficients
    the_function msg s =
        let f = systematic_function code J msg in
        let m = in_message (filter_in (λ f. agrees (word code f) J msg) (functions code) (one_in s.agreeing_function)).0 in
        let (i, w) = filter_in (λ f. same (word code f) (systematic_word code J msg)) (functions code) (one_in s.one_function) in
        record {
          is_function = m;
          its_word = subst (OneWord code J msg) (sym (same_true (word code f) _ w)) (one_word code J msg s.one_word);
          only = λ g u e. (demand2 code done).one_to_one g f u m e;
        }

    pub the_relation : Related code J → OneRelation code J (relation code J)
    unfolding relations
    the_relation r =
        let (i, h) = filter_in (λ f. eqb (leading f) 1 && zero_on code J f) (functions code) (one_in r.one_relation) in
        record {
          is_function = r.is_function;
          is_nonzero = r.is_nonzero;
          is_leading = eqb-true _ 1 (both_left (eqb (leading (relation code J)) 1) _ h);
          is_zero = both_right (eqb (leading (relation code J)) 1) _ h;
          only = λ g m l z.
              in_one r.one_relation
              (in_filter (λ f. eqb (leading f) 1 && zero_on code J f) (message_in g m) (both_true (eqb (leading g) 1) (zero_on code J g) (eq-eqb _ _ l) z));
        }
