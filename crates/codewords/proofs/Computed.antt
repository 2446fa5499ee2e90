-- What the operations compute is what specs/Codewords.antt defines, for every accepted code.
use Rattle.basics.specs.Outcome.{Done}
use Prim.Native.Nat.{ℕ, suc, ◌-◌, ◌<◌}
use mathlib.Core.Path.{◌≡◌, refl, sym, ◌∙◌, ap, ap₂, subst}
use mathlib.Core.Bool.{Bool, true, false, cond}
use mathlib.Core.List.Memᴰ.{head as here}
use mathlib.Core.List.Memᴰ.{not-nil}
use mathlib.Core.List.Memᴰ.{of_map as map-in}
use mathlib.Core.List.{List, [], ◌∷◌, map, Memᴰ as In}
use native.Mathlib.Omega.{arith}
use lib.ListN.{length, get_or, length-map}
use Rattle.basics.specs.Lists.{same, any, filter, table}
use Rattle.basics.proofs.Lists.{length_table, get_or_table, table_as, table_get, map_table}
use Rattle.elliptic.specs.declared.Point.{Point}
use Rattle.elliptic.specs.Curve.{point}
use Rattle.elliptic.specs.Functions.{value}
use Rattle.elliptic.specs.Pair.{evaluate, after}
use Rattle.elliptic.proofs.Values.{value_evaluate}
use Rattle.codewords.specs.Code.{Code, arithmetic, n, points, code_answer}
use Rattle.codewords.specs.Codewords.{the, below, place, index, symbol_at, agrees, unit_message, point_at, choice, symbols, message, functions, word, codewords, codeword, coefficients, recovered, agreeing, agreed, agreeing_functions}
use Rattle.codewords.specs.Codewords.{systematic_word, systematic_function, row, matrix, dependent, usable, relation}
use Rattle.codewords.specs.Computed.{Enough, points_of, last_zero, solved, solution, Computed}
use Rattle.codewords.proofs.Tests.{all_in_lem, true_any, any_false, filter_in, in_filter, filter_same}
use Rattle.codewords.proofs.Counting.{unique_map}
use Rattle.codewords.proofs.Listing.{below_in, unique_below}
use Rattle.codewords.proofs.Accepted.{Accepted, laws, accepted_done}
use Rattle.codewords.proofs.Coefficients.{listed_coefficients, coefficients_listed}
use Rattle.codewords.proofs.Places.{Places, n_points, places_true, choice_places, choice_length, symbols_true, message_listed, true_message}
use Rattle.codewords.proofs.Words.{codeword_of, one_list}
use Rattle.codewords.proofs.Choice.{agreeing_words, usable_true, dependent_exactly, the_relation, one_function, one_relation}
use Rattle.codewords.proofs.Solving.{pick_index, solved_function, solved_agreeing}
use Rattle.codewords.proofs.Demand2.{word_length, no_list}
use Rattle.codewords.proofs.Demand3.{unit_message_lem}

-- a list of one that is one of two is the first
the_first : {f s : List ℕ} (b : Bool) {l : List (List ℕ)} → l ≡ s ∷ [] → l ≡ cond b (f ∷ []) [] → l ≡ f ∷ []
the_first true e g = g
the_first false e g = absurd (omega (arith, ap length e, ap length g))

map_one : {A B : Type 0} (h : A → B) (b : Bool) (x : A) → map h (cond b (x ∷ []) []) ≡ cond b (h x ∷ []) []
map_one h true x = refl
map_one h false x = refl

-- of one element or none, by a test
one_cond : {A : Type 0} (b : Bool) (x : A) {y : A} → cond b (x ∷ []) [] ≡ y ∷ [] → b ≡ true
one_cond true x e = refl
one_cond false x e = absurd (omega (arith, ap length e))

none_cond : {A : Type 0} (b : Bool) (x : A) → cond b (x ∷ []) [] ≡ [] → b ≡ false
none_cond true x e = absurd (omega (arith, ap length e))
none_cond false x e = refl

-- some element passes exactly if the filter keeps one
any_filter : {A : Type 0} (p : A → Bool) (b : Bool) (x : A) (l : List A) → filter p l ≡ cond b (x ∷ []) [] → any p l ≡ b
any_filter p true x l e = let (i, h) = filter_in p l (subst (λ m. In x m) (sym e) (here refl)) in true_any p i h
any_filter p false x l e = any_false p l (λ y i h. not-nil (subst (λ m. In y m) e (in_filter p i h)))

back : (i : ℕ) → suc i - 1 ≡ i
back i = omega arith

module _ (code : Code) (a : Accepted code) where
  word_by : (f : List ℕ) → message code f ≡ true → word code f ≡ map (evaluate (arithmetic code) f) (points code)
  unfolding word
  word_by f m = go (points code)
    where
      go : (J : List Point) → map (value (arithmetic code) f) J ≡ map (evaluate (arithmetic code) f) J
      go [] = refl
      go (P ∷ J) = ap₂ ◌∷◌ (value_evaluate (laws code a) (listed_coefficients (laws code a) (message_listed code f m)).under P) (go J)

  dependent_by : (J us : List ℕ) → choice code J ≡ true → symbols code us ≡ true
      → dependent code J ≡ last_zero (arithmetic code) code.k (points_of code J) us
  unfolding last_zero
  dependent_by J us j s = dependent_exactly code a (choice_places code J j) (choice_length code J j) us (symbols_true code us s)

  relation_by : (J us : List ℕ) → choice code J ≡ true → symbols code us ≡ true → dependent code J ≡ true
      → relation code J ≡ (after (arithmetic code) (points_of code J) us (code.k - 1)).low
  unfolding relation the
  relation_by J us j s d =
      let P = choice_places code J j in
      let k = choice_length code J j in
      ap the (one_relation code a P k (the_relation code a P k us (symbols_true code us s) d))

  -- ---- k usable places

  module _ (J msg : List ℕ) (j : choice code J ≡ true) (m : message code msg ≡ true) (u : usable code J ≡ true) where
    abbrev f : List ℕ
    f = solution code J msg

    solved_one : agreeing_functions code J msg ≡ f ∷ []
    solved_one =
        let P = choice_places code J j in
        let k = choice_length code J j in
        let v = message_listed code msg m in
        the_first (agrees (word code f) J msg) (one_function code a P k (usable_true code J u) msg v)
        (solved_agreeing code a P (omega arith) msg v.symbols (λ e. usable_true code J u) (v.size ∙ sym k))

    function_by : systematic_function code J msg ≡ f
    unfolding systematic_function the
    function_by = ap the solved_one

    systematic_by : systematic_word code J msg ≡ word code f
    unfolding systematic_word the
    systematic_by = ap the (agreeing_words code J msg ∙ ap (map (word code)) solved_one)

  row_by : (J : List ℕ) → choice code J ≡ true → usable code J ≡ true → (i : ℕ) → i < code.k
      → get_or (matrix code J) i [] ≡ word code (solution code J (unit_message code.k (index i)))
  unfolding matrix row
  row_by J j u i h =
      get_or_table (λ i. row code J (index i)) code.k i [] h ∙ systematic_by J (unit_message code.k (index i)) j (unit_message_lem code a i) u

  -- ---- more places

  module _ (J us : List ℕ) (h : Enough code J us) where
    abbrev w : List ℕ
    w = word code (solution code J us)

    solved_coefficients : message code (solution code J us) ≡ true
    solved_coefficients =
        true_message code (coefficients_listed (laws code a)
        (solved_function code a (places_true code J h.are_places) h.at_least us (symbols_true code us h.are_symbols) (λ e. usable_true code J (h.works e)) h.lengths))

    solved_words : agreeing code J us ≡ cond (agrees w J us) (w ∷ []) []
    solved_words =
        agreeing_words code J us
        ∙ ap (map (word code)) (solved_agreeing code a (places_true code J h.are_places) h.at_least us (symbols_true code us h.are_symbols) (λ e. usable_true code J (h.works e)) h.lengths)
        ∙ map_one (word code) (agrees w J us) (solution code J us)

    rebuilt_by : agreed code J us ≡ agrees w J us
    unfolding agreed agreeing
    rebuilt_by = any_filter (λ w. agrees w J us) (agrees w J us) w (codewords code) solved_words

    rebuilt_word_by : agreed code J us ≡ true → systematic_word code J us ≡ w
    unfolding systematic_word the
    rebuilt_word_by t = ap the (solved_words ∙ ap (λ b. cond b (w ∷ []) []) (sym rebuilt_by ∙ t))

  -- ---- all n places

  every : List ℕ
  every = map suc (below (n code))

  every_places : Places code every
  unfolding every
  every_places =
      record {
        spots = all_in_lem every (λ p i. let (b, j, e) = map-in suc (below (n code)) i in (omega arith, omega (arith, below_in (n code) j)));
        unique = unique_map suc (unique_below (n code)) (λ b d i j e. omega arith);
      }

  length_every : length every ≡ n code
  unfolding every
  length_every = length-map (below (n code)) suc ∙ length_table (λ b. b) (n code)

  every_points : points_of code every ≡ points code
  unfolding every point_at
  every_points =
      ap (map (λ p. point_at code (place p))) (map_table suc (λ b. b) (n code)) ∙ map_table (λ p. point_at code (place p)) suc (n code)
      ∙ table_as (λ i. point_at code (place (suc i))) (λ i. get_or (points code) i (point 0 0)) (n code) (λ i h. ap (λ j. get_or (points code) j (point 0 0)) (back i))
      ∙ ap (λ m. table (λ i. get_or (points code) i (point 0 0)) m) (sym (n_points code a)) ∙ table_get (points code) (point 0 0)

  every_symbol : (w : List ℕ) → length w ≡ n code → map (λ p. symbol_at w (place p)) every ≡ w
  unfolding every symbol_at
  every_symbol w e =
      ap (map (λ p. symbol_at w (place p))) (map_table suc (λ b. b) (n code)) ∙ map_table (λ p. symbol_at w (place p)) suc (n code)
      ∙ table_as (λ i. symbol_at w (place (suc i))) (λ i. get_or w i 0) (n code) (λ i h. ap (λ j. get_or w j 0) (back i))
      ∙ ap (λ m. table (λ i. get_or w i 0) m) (sym e) ∙ table_get w 0

  -- a word agrees with another at all places if the two are the same
  every_agrees : (v w : List ℕ) → length v ≡ n code → agrees v every w ≡ same v w
  unfolding agrees
  every_agrees v w e = ap (λ l. same l w) (every_symbol v e)

  every_function : (w : List ℕ) → coefficients code w ≡ agreeing_functions code every w
  unfolding coefficients agreeing_functions
  every_function w =
      filter_same (λ f. same (word code f) w) (λ f. agrees (word code f) every w) (functions code) (λ f i. sym (every_agrees (word code f) w (word_length code a f)))

  module _ (w : List ℕ) (s : symbols code w ≡ true) (e : length w ≡ n code) where
    abbrev g : List ℕ
    g = solved (arithmetic code) code.k (points code) w

    recovered_coefficients : message code g ≡ true
    recovered_coefficients =
        ap (λ pts. message code (solved (arithmetic code) code.k pts w)) (sym every_points)
        ∙ true_message code (coefficients_listed (laws code a)
        (solved_function code a every_places (omega (arith, length_every, a.k_most)) w (symbols_true code w s) (λ h. absurd (omega (arith, length_every, a.k_most))) (e ∙ sym length_every)))

    solved_list : coefficients code w ≡ cond (same (word code g) w) (g ∷ []) []
    solved_list =
        let Result : List Point → List (List ℕ) = λ pts. let f = solved (arithmetic code) code.k pts w in cond (agrees (word code f) every w) (f ∷ []) [] in
        every_function w
        ∙ solved_agreeing code a every_places (omega (arith, length_every, a.k_most)) w (symbols_true code w s) (λ h. absurd (omega (arith, length_every, a.k_most))) (e ∙ sym length_every)
        ∙ ap Result every_points
        ∙ ap (λ b. cond b (g ∷ []) []) (every_agrees (word code g) w (word_length code a g))

    recovered_by : codeword code w ≡ same (word code g) w
    recovered_by = by (codeword code w) refl
      where
        by : (b : Bool) → codeword code w ≡ b → b ≡ same (word code g) w
        by true h = let (f, u, t) = codeword_of code a w h in sym (one_cond (same (word code g) w) g (sym solved_list ∙ one_list code a w u t))
        by false h = sym (none_cond (same (word code g) w) g (sym solved_list ∙ no_list code a w h))

    recovered_list_by : codeword code w ≡ true → recovered code w ≡ g
    unfolding recovered the
    recovered_list_by h = ap the (solved_list ∙ ap (λ b. cond b (g ∷ []) []) (sym recovered_by ∙ h))

-- THEOREM
pub computed : (code : Code) → code_answer code ≡ Done → Computed code
computed code done =
    record {
      word_by = word_by code a;
      dependent_by = dependent_by code a;
      relation_by = relation_by code a;
      function_by = function_by code a;
      systematic_by = systematic_by code a;
      row_by = row_by code a;
      pick_by = λ ranked us p s more. pick_index code a (places_true code ranked p) (omega arith) us (symbols_true code us s) more;
      solved_coefficients = solved_coefficients code a;
      rebuilt_by = rebuilt_by code a;
      rebuilt_word_by = rebuilt_word_by code a;
      recovered_coefficients = recovered_coefficients code a;
      recovered_by = recovered_by code a;
      recovered_list_by = recovered_list_by code a;
    }
  where
    a : Accepted code
    a = accepted_done code done
