-- Codewords, choices of places, agreement, dependence, relations and Pick: document 01's terms as lists that could be computed.
use Rattle.std.specs.Prelude.{ℕ, zero, suc, ◌-◌, Bool, not, cond, ◌&&◌, List, [], ◌∷◌, ◌++◌, map, length, get_or, take, eqb, ltb, leb}
use Rattle.basics.specs.Lists.{all, any, filter, different, same, table}
use Rattle.basics.specs.declared.Place.{Place}
use Rattle.basics.specs.declared.MessageIndex.{MessageIndex}
use Rattle.elliptic.specs.declared.Point.{Point}
use Rattle.elliptic.specs.Curve.{point}
use Rattle.elliptic.specs.Functions.{nonzero, leading, value}
use Rattle.codewords.specs.Code.{Code, arithmetic, q, n, points}

-- 0, 1, .., q − 1
abbrev pub below : ℕ → List ℕ
below q = table (λ a. a) q

-- each list of ls with each symbol before it
unfoldable pub extended : List ℕ → List (List ℕ) → List (List ℕ)
extended [] ls = []
extended (a ∷ symbols) ls = map (λ l. a ∷ l) ls ++ extended symbols ls

-- every list of k symbols below q, in order
unfoldable pub all_lists : ℕ → ℕ → List (List ℕ)
all_lists q zero = [] ∷ []
all_lists q (suc k) = extended (below q) (all_lists q k)

-- the list of a list of lists that has one
unfoldable pub the : List (List ℕ) → List ℕ
the [] = []
the (l ∷ ls) = l

-- places are numbered 1 to n
abbrev pub place : ℕ → Place
place p = record { 0 = p }

abbrev pub index : ℕ → MessageIndex
index i = record { 0 = i }

-- the symbol of a word at a place
unfoldable pub symbol_at : List ℕ → Place → ℕ
symbol_at w p = get_or w (p.0 - 1) 0

-- the message symbol at an index
unfoldable pub message_at : List ℕ → MessageIndex → ℕ
message_at msg i = get_or msg i.0 0

-- a word agrees with a message at a choice: for every i its symbol at the i-th chosen place is the message symbol at index i
unfoldable pub agrees : List ℕ → List ℕ → List ℕ → Bool
agrees w J msg = same (map (λ p. symbol_at w (place p)) J) msg

-- the message that is 1 at index i and 0 elsewhere, of k symbols
unfoldable pub unit_message : ℕ → MessageIndex → List ℕ
unit_message k i = table (λ j. cond (eqb j i.0) 1 0) k

module _ (code : Code) where
  -- the point at a place
  unfoldable pub point_at : Place → Point
  point_at p = get_or (points code) (p.0 - 1) (point 0 0)

  -- each is a place of the code, and none stands twice
  unfoldable pub all_places : List ℕ → Bool
  all_places J = all (λ p. leb 1 p && leb p (n code)) J

  unfoldable pub places_differ : List ℕ → Bool
  places_differ J = different eqb J

  unfoldable pub places : List ℕ → Bool
  places J = all_places J && places_differ J

  -- a choice: k different places in any order
  unfoldable pub choice : List ℕ → Bool
  choice J = places J && eqb (length J) code.k

  -- symbols below q, and a message: k of them
  unfoldable pub symbols : List ℕ → Bool
  symbols us = all (λ u. ltb u (q code)) us

  unfoldable pub message : List ℕ → Bool
  message msg = symbols msg && eqb (length msg) code.k

  -- every function of weighted degree at most k, by its k coefficients
  unfoldable pub functions : List (List ℕ)
  functions = all_lists (q code) code.k

  -- the values of a function at the listed points
  unfoldable pub word : List ℕ → List ℕ
  word f = map (value (arithmetic code) f) (points code)

  unfoldable pub codewords : List (List ℕ)
  codewords = map word functions

  unfoldable pub codeword : List ℕ → Bool
  codeword w = any (same w) codewords

  -- the coefficient lists of a word: none if it is no codeword. Recover gives the one
  unfoldable pub coefficients : List ℕ → List (List ℕ)
  coefficients w = filter (λ f. same (word f) w) functions

  unfoldable pub recovered : List ℕ → List ℕ
  recovered w = the (coefficients w)

  -- the codewords that agree with a message at the places, and their count
  unfoldable pub agreeing : List ℕ → List ℕ → List (List ℕ)
  agreeing J msg = filter (λ w. agrees w J msg) codewords

  unfoldable pub count : List ℕ → List ℕ → ℕ
  count J msg = length (agreeing J msg)

  -- some codeword agrees
  unfoldable pub agreed : List ℕ → List ℕ → Bool
  agreed J msg = any (λ w. agrees w J msg) codewords

  -- the functions whose codewords agree
  unfoldable pub agreeing_functions : List ℕ → List ℕ → List (List ℕ)
  agreeing_functions J msg = filter (λ f. agrees (word f) J msg) functions

  -- what Systematic word and Rebuild give, and Systematic function
  unfoldable pub systematic_word : List ℕ → List ℕ → List ℕ
  systematic_word J msg = the (agreeing J msg)

  unfoldable pub systematic_function : List ℕ → List ℕ → List ℕ
  systematic_function J msg = the (agreeing_functions J msg)

  -- the rows of Matrix: row i is the word for the message that is 1 at index i and 0 elsewhere
  unfoldable pub row : List ℕ → MessageIndex → List ℕ
  row J i = systematic_word J (unit_message code.k i)

  unfoldable pub matrix : List ℕ → List (List ℕ)
  matrix J = table (λ i. row J (index i)) code.k

  -- the function is zero at all the places
  unfoldable pub zero_on : List ℕ → List ℕ → Bool
  zero_on J f = all (λ p. eqb (value (arithmetic code) f (point_at (place p))) 0) J

  -- places are dependent if a nonzero function of weighted degree at most k is zero at all of them; otherwise a choice works, or is usable
  unfoldable pub dependent : List ℕ → Bool
  dependent J = any (λ f. nonzero f && zero_on J f) functions

  unfoldable pub usable : List ℕ → Bool
  usable J = not (dependent J)

  -- the functions with leading coefficient 1 that are zero at all the places. Relation gives the one
  unfoldable pub relations : List ℕ → List (List ℕ)
  relations J = filter (λ f. eqb (leading f) 1 && zero_on J f) functions

  unfoldable pub relation : List ℕ → List ℕ
  relation J = the (relations J)

  -- the codewords take every combination of symbols at the places
  unfoldable pub takes_all : List ℕ → Bool
  takes_all J = all (agreed J) (all_lists (q code) (length J))

  -- Pick: in rank order a place is kept if the codewords take every combination of symbols at the places kept so far and it together;
  -- it stops at k
  unfoldable pub keep : List ℕ → List ℕ → List ℕ
  keep kept [] = kept
  keep kept (p ∷ ranked) =
      cond (eqb (length kept) code.k) kept
      (cond (takes_all (kept ++ p ∷ [])) (keep (kept ++ p ∷ []) ranked) (keep kept ranked))

  unfoldable pub pick : List ℕ → List ℕ
  pick ranked = keep [] ranked

  -- ranks 1 to k, and ranks 1 to k − 1 and k + 1
  unfoldable pub first_ranks : List ℕ → List ℕ
  first_ranks ranked = take code.k ranked

  unfoldable pub next_ranks : List ℕ → List ℕ
  next_ranks ranked = take (code.k - 1) ranked ++ get_or ranked code.k 0 ∷ []
