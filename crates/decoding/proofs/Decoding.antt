-- THEOREM: the codeword within t is found where there is one, and the operation accepts exactly then.
use Rattle.basics.specs.Outcome.{Done}
use Prim.Native.Nat.{ℕ, ◌<◌, ◌≤◌}
use mathlib.Core.Path.{◌≡◌, refl, sym, ◌∙◌, ap, ap₂, subst}
use mathlib.Core.Bool.{Bool, true, false, not, cond}
use mathlib.Core.List.Memᴰ.{eq_of_singleton as in_one}
use mathlib.Core.List.Memᴰ.{head as here}
use mathlib.Core.List.Memᴰ.{map as in_map}
use mathlib.Core.List.Memᴰ.{tail as there}
use mathlib.Core.List.{List, [], ◌∷◌, map, Memᴰ as In}
use native.Mathlib.Omega.{arith}
use lib.Dec.{eqb, ltb}
use lib.ListN.{length, length-map}
use borrow.Author.Tests.{eqb-false, not-true, ltb-true, lt-ltb, le-leb}
use Rattle.basics.specs.Lists.{filter}
use Rattle.basics.proofs.Lists.{both_left, both_right, both_true}
use Rattle.elliptic.specs.Pair.{evaluate}
use Rattle.elliptic.proofs.Points.{All}
use Rattle.elliptic.proofs.Kernel.{values}
use Rattle.codewords.specs.Code.{Code, arithmetic, q, n, points, code_answer}
use Rattle.codewords.specs.Codewords.{the, place, symbol_at, point_at, agrees, word, codewords}
use Rattle.codewords.specs.Computed.{points_of, solution}
use Rattle.codewords.proofs.Tests.{any_true, true_any, filter_in, in_filter}
use Rattle.codewords.proofs.Counting.{only, unique_filter}
use Rattle.codewords.proofs.Accepted.{Accepted, accepted_done}
use Rattle.codewords.proofs.Places.{Places, all_at, symbols_true}
use Rattle.codewords.proofs.Words.{Function, in_functions, unique_codewords}
use Rattle.codewords.proofs.Choice.{TakesAt, in_agreeing}
use Rattle.codewords.proofs.Solving.{solved_function, solved_agreeing}
use Rattle.decoding.specs.Near.{distance, radius, within, near, correctable, corrected}
use Rattle.decoding.specs.Rows.{all_places, found, kept_places, kept_symbols, decoded, decodes}
use Rattle.decoding.specs.Decoding.{Decoding}
use Rattle.decoding.proofs.Spots.{symbol_index, point_index, tested_places, tested_index, all_mapped}
use Rattle.decoding.proofs.Unique.{near_function, one_near}
use Rattle.decoding.proofs.Exists.{found_pair}
use Rattle.decoding.proofs.Locator.{kept_right, enough}

same_test : (b c : Bool) → (b ≡ true → c ≡ true) → (c ≡ true → b ≡ true) → b ≡ c
same_test true c f g = sym (f refl)
same_test false true f g = g refl
same_test false false f g = refl

-- a function takes the symbols at places
symbols_taken : (code : Code) (r f : List ℕ) (J : List ℕ) → ((p : ℕ) → In p J → evaluate (arithmetic code) f (point_at code (place p)) ≡ symbol_at r (place p))
    → values (arithmetic code) f (points_of code J) ≡ map (λ p. symbol_at r (place p)) J
symbols_taken code r f [] h = refl
symbols_taken code r f (p ∷ J) h = ap₂ ◌∷◌ (h p (here refl)) (symbols_taken code r f J (λ q i. h q (there i)))

module _ (code : Code) (a : Accepted code) (r : List ℕ) (small : All (λ v. v < q code) r) (size : length r ≡ n code) where
  abbrev E : List ℕ
  E = (found code.k (radius code) (arithmetic code) (points code) r).den

  abbrev test : ℕ → Bool
  test p = not (eqb (evaluate (arithmetic code) E (point_at code (place p))) 0)

  abbrev J : List ℕ
  J = filter test (all_places (n code))

  abbrev us : List ℕ
  us = map (λ p. symbol_at r (place p)) J

  are_places : Places code J
  are_places = tested_places code test

  small_symbols : All (λ v. v < q code) us
  small_symbols =
      all_mapped (λ p. symbol_at r (place p)) J
      (λ p i. let (j, l, e, t) = tested_index code test i in subst (λ p. symbol_at r (place p) < q code) e (rw (symbol_index r j) (all_at 0 small j (rw size l))))

  as_many : length us ≡ length J
  as_many = length-map J (λ p. symbol_at r (place p))

  module _ (many : code.k < length J) where
    decoded_function : Function code a (solution code J us)
    decoded_function = solved_function code a are_places (omega arith) us small_symbols (λ e. absurd (omega arith)) as_many

    taken_only : {f : List ℕ} → TakesAt code J us f → f ≡ solution code J us
    taken_only {f} t =
        by (agrees (word code (solution code J us)) J us)
        (subst (λ l. In f l) (solved_agreeing code a are_places (omega arith) us small_symbols (λ e. absurd (omega arith)) as_many) (in_agreeing code a are_places us t))
      where
        by : (b : Bool) → In f (cond b (solution code J us ∷ []) []) → f ≡ solution code J us
        by true i = in_one i
        by false i = elim i [ ]

  -- THEOREM: a codeword within t is the one that is decoded
  near_decoded : {f : List ℕ} → Function code a f → distance (word code f) r ≤ radius code → (code.k < length J) × (f ≡ solution code J us)
  near_decoded {f} u close =
      let e = found_pair code a r size u close in
      let many : code.k < length J = enough code a r size u close e in (
        many,
        taken_only many (record {
          coefficients = u;
          takes =
              symbols_taken code r f J
              (λ p i.
              let (j, l, s, t) = tested_index code test i in
              subst (λ p. evaluate (arithmetic code) f (point_at code (place p)) ≡ symbol_at r (place p)) s
              (ap (evaluate (arithmetic code) f) (point_index code j)
              ∙ kept_right code a r size u close e small j l (λ z. eqb-false _ 0 (not-true _ t) (ap (evaluate (arithmetic code) E) (point_index code j) ∙ z))
              ∙ sym (symbol_index r j)));
        }),
      )

  -- some codeword lies within t: it is decoded
  decodes_near : {w : List ℕ} → In w (codewords code) → within code r w ≡ true → (decodes code r ≡ true) × (w ≡ word code (decoded code r))
  unfolding within kept_places kept_symbols decoded decodes
  decodes_near i t =
      let (f, u, e, close) = near_function code a r size i t in
      let (many, s) = near_decoded u close in (
        both_true (ltb code.k (length J)) _ (lt-ltb _ _ many) (le-leb (distance (word code (solution code J us)) r) (radius code) (subst (λ f. distance (word code f) r ≤ radius code) s close)),
        sym e ∙ ap (word code) s,
      )

  decodes_function : decodes code r ≡ true → Function code a (decoded code r)
  unfolding kept_places kept_symbols decoded decodes
  decodes_function h = decoded_function (ltb-true code.k (length J) (both_left (ltb code.k (length J)) _ h))

  decodes_in : decodes code r ≡ true → In (word code (decoded code r)) (codewords code)
  unfolding codewords
  decodes_in h = in_map (word code) (in_functions code a (decodes_function h))

  decodes_within : decodes code r ≡ true → within code r (word code (decoded code r)) ≡ true
  unfolding decodes
  decodes_within h = both_right (ltb code.k (length (kept_places code r))) _ h

  -- THEOREM
  accepts : correctable code r ≡ decodes code r
  unfolding correctable
  accepts =
      same_test (correctable code r) (decodes code r)
      (λ c. let (w, i, t) = any_true (within code r) (codewords code) c in (decodes_near i t).0)
      (λ d. true_any (within code r) (decodes_in d) (decodes_within d))

  -- THEOREM
  gives : correctable code r ≡ true → corrected code r ≡ word code (decoded code r)
  unfolding near corrected the
  gives c =
      let d : decodes code r ≡ true = sym accepts ∙ c in
      ap the
      (only (word code (decoded code r)) (unique_filter (within code r) (unique_codewords code a)) (in_filter (within code r) (decodes_in d) (decodes_within d))
      (λ w i. let (j, t) = filter_in (within code r) (codewords code) i in (decodes_near j t).1))

pub decoding : (code : Code) → code_answer code ≡ Done → Decoding code
decoding code done =
    let a = accepted_done code done in
    record {
      one_near = λ r size. one_near code a r size;
      correctable_by = λ r s size. accepts code a r (symbols_true code r s) size;
      corrected_by = λ r s size c. gives code a r (symbols_true code r s) size c;
    }
