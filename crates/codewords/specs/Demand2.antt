-- Demand 2, as far as it speaks of functions and codewords: coefficients and codewords belong to one another one to one, so that Plain and Recover undo each other.
use Rattle.std.specs.Prelude.{ℕ, ◌<◌, ◌≤◌, ◌≡◌, true, false, ◌↔◌, List, [], ◌∷◌, length, get_or, replicate}
use Rattle.basics.specs.Lists.{any, same, different}
use Rattle.elliptic.specs.Functions.{degree, value}
use Rattle.codewords.specs.Code.{Code, arithmetic, n}
use Rattle.codewords.specs.Codewords.{place, index, symbol_at, message_at, agrees, point_at, symbols, message, functions, word, codewords, codeword, coefficients, recovered}

pub record Demand2 (code : Code) : Type 0 where
  -- the functions are all lists of k coefficients below q, and none stands twice
  pub functions_all : (f : List ℕ) → (message code f ≡ true) ↔ (any (same f) (functions code) ≡ true)
  pub functions_once : different same (functions code) ≡ true
  -- "the k coefficients of a function stand in order of weight: 0, 2, 3, 4, up to k": k coefficients have a weighted degree of at most k,
  -- and a weighted degree of at most k leaves no coefficient past them
  pub degree_most : (f : List ℕ) → message code f ≡ true → degree f ≤ code.k
  pub degree_all : (f : List ℕ) → degree f ≤ code.k → (i : ℕ) → code.k ≤ i → get_or f i 0 ≡ 0
  -- a codeword is a list of n symbols below q
  pub word_length : (f : List ℕ) → length (word code f) ≡ n code
  pub word_symbols : (f : List ℕ) → message code f ≡ true → symbols code (word code f) ≡ true
  -- "places are numbered 1 to n": the symbol at a place is the value at its point
  pub symbol_value : (f : List ℕ) (p : ℕ) → 1 ≤ p → p ≤ n code → symbol_at (word code f) (place p) ≡ value (arithmetic code) f (point_at code (place p))
  -- "a codeword agrees with a message at a choice if, for every i, its symbol at the i-th chosen place is the message symbol at index i"
  pub agrees_exactly : (w J msg : List ℕ) → length J ≡ length msg
      → (agrees w J msg ≡ true) ↔ ((i : ℕ) → i < length J → symbol_at w (place (get_or J i 0)) ≡ message_at msg (index i))
  -- "codewords are counted as lists of n symbols": none is listed twice
  pub no_repetition : different same (codewords code) ≡ true
  -- different coefficients have different codewords
  pub one_to_one : (f g : List ℕ) → message code f ≡ true → message code g ≡ true → word code f ≡ word code g → f ≡ g
  -- a codeword has one list of coefficients, and a word that is no codeword has none
  pub one_list : (w : List ℕ) → codeword code w ≡ true → coefficients code w ≡ recovered code w ∷ []
  pub no_list : (w : List ℕ) → codeword code w ≡ false → coefficients code w ≡ []
  -- Recover undoes Plain, and Plain undoes Recover
  pub recovered_word : (f : List ℕ) → message code f ≡ true → recovered code (word code f) ≡ f
  pub word_recovered : (w : List ℕ) → codeword code w ≡ true → word code (recovered code w) ≡ w
  -- "0 if there is none, so that all zeros is a codeword of every code"
  pub zero_degree : degree (replicate code.k 0) ≡ 0
  pub zero_word : word code (replicate code.k 0) ≡ replicate (n code) 0
  pub zero_codeword : codeword code (replicate (n code) 0) ≡ true
