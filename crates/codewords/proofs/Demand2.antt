-- Demand 2 holds of every accepted code.
use Rattle.basics.specs.Outcome.{Done}
use Prim.Native.Nat.{ℕ, ◌-◌, ◌<◌, ◌≤◌}
use mathlib.Core.Path.{◌≡◌, refl, sym, ◌∙◌, ap, ap₂, subst}
use mathlib.Core.Bool.{true, false}
use mathlib.Core.Logic.{◌↔◌}
use mathlib.Core.List.{List, [], ◌∷◌, map}
use native.Mathlib.Omega.{arith}
use lib.Dec.{ltb}
use lib.ListN.{length, get_or, replicate, length-map}
use lib.Seq.{ext_get_or}
use borrow.Author.Tests.{lt-ltb}
use Rattle.basics.specs.Lists.{any, same}
use Rattle.basics.proofs.Lists.{same_true, same_refl, eq_same, get_or_map_in}
use Rattle.elliptic.specs.declared.Point.{Point}
use Rattle.elliptic.specs.Curve.{point}
use Rattle.elliptic.specs.Functions.{value}
use Rattle.elliptic.proofs.Points.{All, All.nil, All.cons}
use Rattle.elliptic.proofs.Function.{evaluate_lt}
use Rattle.elliptic.proofs.Weights.{weight_le}
use Rattle.elliptic.proofs.Values.{value_evaluate, degree_most}
use Rattle.codewords.specs.Code.{Code, arithmetic, q, n, points, code_answer}
use Rattle.codewords.specs.Codewords.{the, place, index, symbol_at, message_at, agrees, point_at, symbols, message, functions, word, codeword, coefficients, recovered}
use Rattle.codewords.specs.Demand2.{Demand2}
use Rattle.codewords.proofs.Tests.{not_both, true_all, any_true, true_any, filter_in}
use Rattle.codewords.proofs.Counting.{unique_different, empty}
use Rattle.codewords.proofs.Accepted.{Accepted, laws, accepted_done}
use Rattle.codewords.proofs.Coefficients.{no_more, zeros_of, zeros_degree, evaluate_zero, listed_coefficients, coefficients_listed, zero_coefficients}
use Rattle.codewords.proofs.Places.{n_points, message_listed, true_message}
use Rattle.codewords.proofs.Choice.{k_suc}
use Rattle.codewords.proofs.Words.{Function, functions_in, in_functions, unique_functions, word_one, no_repetition, is_codeword, codeword_of, one_list}

agrees_exactly : (w J msg : List ℕ) → length J ≡ length msg
    → (agrees w J msg ≡ true) ↔ ((i : ℕ) → i < length J → symbol_at w (place (get_or J i 0)) ≡ message_at msg (index i))
unfolding agrees message_at
agrees_exactly w J msg e = (
  λ h i l. sym (at i l) ∙ ap (λ m. get_or m i 0) (same_true there msg h),
  λ h. eq_same there msg (ext_get_or 0 there msg (size ∙ e) (λ i l. let k : i < length J = omega (arith, size) in at i k ∙ h i k)),
)
  where
    there : List ℕ
    there = map (λ p. symbol_at w (place p)) J

    size : length there ≡ length J
    size = length-map J (λ p. symbol_at w (place p))

    at : (i : ℕ) → i < length J → get_or there i 0 ≡ symbol_at w (place (get_or J i 0))
    at i l = get_or_map_in (λ p. symbol_at w (place p)) J i 0 0 l

module _ (code : Code) (a : Accepted code) where
  message_function : (f : List ℕ) → message code f ≡ true → Function code a f
  message_function f m = listed_coefficients (laws code a) (message_listed code f m)

  functions_all : (f : List ℕ) → (message code f ≡ true) ↔ (any (same f) (functions code) ≡ true)
  functions_all f = (
    λ m. true_any (same f) (in_functions code a (message_function f m)) (same_refl f),
    λ h. let (g, i, s) = any_true (same f) (functions code) h in rw (same_true f g s) (true_message code (coefficients_listed (laws code a) (functions_in code a i))),
  )

  pub word_length : (f : List ℕ) → length (word code f) ≡ n code
  unfolding word
  word_length f = length-map (points code) (value (arithmetic code) f) ∙ n_points code a

  word_symbols : (f : List ℕ) → message code f ≡ true → symbols code (word code f) ≡ true
  unfolding symbols word
  word_symbols f m = true_all (go (points code))
    where
      small : (P : Point) → value (arithmetic code) f P < q code
      small P = let u = (message_function f m).under in rw (value_evaluate (laws code a) u P) (evaluate_lt (laws code a) u P)

      go : (J : List Point) → All (λ u. ltb u (q code) ≡ true) (map (value (arithmetic code) f) J)
      go [] = nil
      go (P ∷ J) = cons (lt-ltb _ _ (small P)) (go J)

  symbol_value : (f : List ℕ) (p : ℕ) → 1 ≤ p → p ≤ n code → symbol_at (word code f) (place p) ≡ value (arithmetic code) f (point_at code (place p))
  unfolding symbol_at word point_at
  symbol_value f p h l = get_or_map_in (value (arithmetic code) f) (points code) (p - 1) (point 0 0) 0 (omega (arith, n_points code a))

  zero_word : word code (replicate code.k 0) ≡ replicate (n code) 0
  unfolding word
  zero_word = go (points code) ∙ ap (λ m. replicate m 0) (n_points code a)
    where
      go : (J : List Point) → map (value (arithmetic code) (replicate code.k 0)) J ≡ replicate (length J) 0
      go [] = refl
      go (P ∷ J) = ap₂ ◌∷◌ (value_evaluate (laws code a) (zero_coefficients (laws code a) code.k).under P ∙ evaluate_zero (laws code a) code.k P) (go J)

  zero_function : Function code a (replicate code.k 0)
  zero_function = zero_coefficients (laws code a) code.k

  the_list : (w : List ℕ) {f : List ℕ} → coefficients code w ≡ f ∷ [] → recovered code w ≡ f
  unfolding recovered the
  the_list w e = rw e

  pub no_list : (w : List ℕ) → codeword code w ≡ false → coefficients code w ≡ []
  unfolding coefficients
  no_list w h =
      empty (coefficients code w)
      (λ f j.
      let (i, s) = filter_in (λ f. same (word code f) w) (functions code) j in
      not_both (subst (λ v. codeword code v ≡ true) (same_true (word code f) w s) (is_codeword code a (functions_in code a i))) h)

-- THEOREM
pub demand2 : (code : Code) → code_answer code ≡ Done → Demand2 code
demand2 code done =
    record {
      functions_all = functions_all code a;
      functions_once = unique_different same same_true (unique_functions code a);
      degree_most = λ f m. omega (arith, degree_most (code.k - 1) f ((message_listed code f m).size ∙ k_suc code a), weight_le (code.k - 1), k_suc code a);
      degree_all = λ f. no_more code.k f a.k_least;
      word_length = word_length code a;
      word_symbols = word_symbols code a;
      symbol_value = symbol_value code a;
      agrees_exactly = agrees_exactly;
      no_repetition = no_repetition code a;
      one_to_one = λ f g u v. word_one code a (message_function code a f u) (message_function code a g v);
      one_list = λ w h. let (f, u, e) = codeword_of code a w h in let l = one_list code a w u e in l ∙ ap (λ f. f ∷ []) (sym (the_list code a w l));
      no_list = no_list code a;
      recovered_word = λ f m. the_list code a (word code f) (one_list code a (word code f) (message_function code a f m) refl);
      word_recovered = λ w h. let (f, u, e) = codeword_of code a w h in ap (word code) (the_list code a w (one_list code a w u e)) ∙ e;
      zero_degree = zeros_degree (zeros_of code.k);
      zero_word = zero_word code a;
      zero_codeword = subst (λ w. codeword code w ≡ true) (zero_word code a) (is_codeword code a (zero_function code a));
    }
  where
    a : Accepted code
    a = accepted_done code done
