-- A codeword has one list of coefficients, so that codewords holds each codeword once, and to count its entries is to count codewords.
use Prim.Native.Nat.{ℕ}
use mathlib.Core.Path.{◌≡◌, sym, ◌∙◌}
use mathlib.Core.Bool.{true}
use mathlib.Core.List.Memᴰ.{map as in_map}
use mathlib.Core.List.Memᴰ.{of_map as map-in}
use mathlib.Core.List.{List, [], ◌∷◌, map, head-eq_of_cons-eq, tail-eq_of_cons-eq, Memᴰ as In}
use native.Mathlib.Omega.{arith}
use Rattle.basics.specs.Lists.{same, different}
use Rattle.basics.proofs.Lists.{same_true, same_refl, eq_same}
use Rattle.field.specs.Field.{Arithmetic, Field}
use Rattle.elliptic.specs.declared.Point.{Point}
use Rattle.elliptic.specs.Functions.{value}
use Rattle.elliptic.proofs.Points.{All.nil, All.cons}
use Rattle.elliptic.proofs.Function.{Under, Coefficients}
use Rattle.elliptic.proofs.Kernel.{Agree, known, few}
use Rattle.elliptic.proofs.Values.{value_evaluate}
use Rattle.codewords.specs.Code.{Code, arithmetic, q}
use Rattle.codewords.specs.Codewords.{functions, word, codewords, codeword, coefficients}
use Rattle.codewords.proofs.Tests.{any_true, true_any, filter_in, in_filter}
use Rattle.codewords.proofs.Counting.{Unique, unique_filter, unique_map, unique_different, only}
use Rattle.codewords.proofs.Listing.{in_lists, lists_in, unique_lists}
use Rattle.codewords.proofs.Accepted.{Accepted, laws}
use Rattle.codewords.proofs.Coefficients.{listed_coefficients, coefficients_listed}
use Rattle.codewords.proofs.Places.{n_points}

same_values : {F : Arithmetic} (K : Field F) {k : ℕ} {f g : List ℕ} → Under F k f → Under F k g → (J : List Point) → map (value F f) J ≡ map (value F g) J → Agree F f g J
same_values K u v [] e = nil
same_values K u v (P ∷ J) e = cons (sym (value_evaluate K u P) ∙ head-eq_of_cons-eq e ∙ value_evaluate K v P) (same_values K u v J (tail-eq_of_cons-eq e))

module _ (code : Code) (a : Accepted code) where
  -- a function of the code: k coefficients in the field
  abbrev pub Function : List ℕ → Type 0
  Function f = Coefficients (arithmetic code) code.k f

  pub functions_in : {f : List ℕ} → In f (functions code) → Function f
  unfolding functions
  functions_in i = listed_coefficients (laws code a) (lists_in (q code) code.k i)

  pub in_functions : {f : List ℕ} → Function f → In f (functions code)
  unfolding functions
  in_functions u = in_lists (coefficients_listed (laws code a) u)

  pub unique_functions : Unique (functions code)
  unfolding functions
  unique_functions = unique_lists (q code) code.k

  -- THEOREM: the map from coefficients to codewords is one to one
  pub word_one : {f g : List ℕ} → Function f → Function g → word code f ≡ word code g → f ≡ g
  unfolding word
  word_one {f} {g} u v e =
      known (laws code a) (few (laws code a) a.different (omega (arith, a.k_most, n_points code a))) f g u v
      (same_values (laws code a) u.under v.under _ e)

  pub unique_codewords : Unique (codewords code)
  unfolding codewords
  unique_codewords = unique_map (word code) unique_functions (λ f g i j e. word_one (functions_in i) (functions_in j) e)

  pub no_repetition : different same (codewords code) ≡ true
  no_repetition = unique_different same same_true unique_codewords

  pub is_codeword : {f : List ℕ} → Function f → codeword code (word code f) ≡ true
  unfolding codeword codewords
  is_codeword {f} u = true_any (same (word code f)) (in_map (word code) (in_functions u)) (same_refl (word code f))

  -- a codeword is the word of a function
  pub codeword_of : (w : List ℕ) → codeword code w ≡ true → (f : List ℕ) × Function f × (word code f ≡ w)
  unfolding codeword codewords
  codeword_of w h =
      let (v, i, s) = any_true (same w) (codewords code) h in
      let (f, j, e) = map-in (word code) (functions code) i in
      (f, functions_in j, e ∙ sym (same_true w v s))

  -- THEOREM: which has no other list of coefficients
  pub one_list : {f : List ℕ} (w : List ℕ) → Function f → word code f ≡ w → coefficients code w ≡ f ∷ []
  unfolding coefficients
  one_list {f} w u e =
      only f (unique_filter (λ f. same (word code f) w) unique_functions) (in_filter (λ f. same (word code f) w) (in_functions u) (eq_same _ _ e))
      (λ g j. let (i, s) = filter_in (λ f. same (word code f) w) (functions code) j in word_one (functions_in i) u (same_true (word code g) w s ∙ sym e))
