-- The picked places are a usable choice, so that changes of them and codewords belong to one another one to one.
use Rattle.basics.specs.Outcome.{Done}
use Prim.Native.Nat.{ℕ, ◌-◌, ◌<◌}
use mathlib.Core.Path.{◌≡◌, refl, sym, ◌∙◌, ap, subst}
use mathlib.Core.Bool.{true}
use mathlib.Core.List.Memᴰ.{eq_of_singleton as in_one}
use mathlib.Core.List.Memᴰ.{head as here}
use mathlib.Core.List.{List, [], ◌∷◌, Memᴰ as In}
use native.Mathlib.Omega.{arith}
use lib.ListN.{length, length-map}
use Rattle.basics.specs.Lists.{filter, same}
use Rattle.basics.proofs.Lists.{same_true, same_refl, eq_same}
use Rattle.elliptic.proofs.Points.{All, All.nil, All.cons}
use Rattle.codewords.specs.Code.{Code, q, n, code_answer}
use Rattle.codewords.specs.Codewords.{symbol_at, place, agrees, all_lists, choice, symbols, codewords, codeword, agreeing, systematic_word, usable}
use Rattle.codewords.specs.Demand3.{Picked}
use Rattle.codewords.proofs.Tests.{any_true, true_any, filter_in, in_filter}
use Rattle.codewords.proofs.Counting.{only, unique_filter}
use Rattle.codewords.proofs.Listing.{Listed, in_lists, lists_in, unique_lists}
use Rattle.codewords.proofs.Accepted.{Accepted, accepted_done, laws}
use Rattle.codewords.proofs.Coefficients.{coefficients_listed}
use Rattle.codewords.proofs.Places.{Places, Spot, all_at, true_places, choice_places, choice_length, symbols_true, true_message}
use Rattle.codewords.proofs.Words.{codeword_of}
use Rattle.codewords.proofs.Demand2.{demand2}
use Rattle.codewords.proofs.Demand3.{demand3}
use Rattle.patterns.specs.Ranking.{trust_at, ranking}
use Rattle.patterns.specs.Best.{entries, changed, picked, word_of}
use Rattle.patterns.specs.Promises.{change_of}
use Rattle.patterns.proofs.Ranking.{ranking_places, ranking_length, unique_ranking}
use Rattle.patterns.proofs.Changes.{changed_length, changed_twice, changed_below}

module _ (code : Code) (done : code_answer code ≡ Done) where
  abbrev a : Accepted code
  a = accepted_done code done

  -- ---- the picked places, whatever the trusts

  module _ (trusts : List ℕ) where
    abbrev J : List ℕ
    J = picked code trusts

    -- THEOREM: Pick accepts the ranking
    pub picked_is : Picked code (ranking (trust_at trusts) (n code))
    picked_is =
        (demand3 code done).pick_more (ranking (trust_at trusts) (n code))
        (true_places code (record { spots = ranking_places (trust_at trusts) (n code); unique = unique_ranking (trust_at trusts) (n code) }))
        (rw (ranking_length (trust_at trusts) (n code)) a.k_most)

    pub is_choice : choice code J ≡ true
    unfolding picked
    is_choice = picked_is.is_choice

    pub is_usable : usable code J ≡ true
    unfolding picked
    is_usable = picked_is.works

    pub are_places : Places code J
    are_places = choice_places code J is_choice

    pub k_places : length J ≡ code.k
    k_places = choice_length code J is_choice

    -- the symbols of a word at the picked places
    pub entries_length : (w : List ℕ) → length (entries w J) ≡ code.k
    unfolding entries
    entries_length w = length-map J (λ p. symbol_at w (place p)) ∙ k_places

    pub entries_listed : (w : List ℕ) → All (λ s. s < q code) w → length w ≡ n code → Listed (q code) code.k (entries w J)
    unfolding entries symbol_at
    entries_listed w s e = record { symbols = go are_places.spots; size = entries_length w }
      where
        go : {K : List ℕ} → All (Spot code) K → All (λ s. s < q code) (entries w K)
        go nil = nil
        go (cons {a = p} h hs) = cons (all_at 0 s (p - 1) (omega (arith, h.0, h.1, e))) (go hs)

    -- ---- one codeword for each message

    module _ (msg : List ℕ) (m : Listed (q code) code.k msg) where
      the_word : agreeing code J msg ≡ systematic_word code J msg ∷ []
      the_word = ((demand3 code done).at_usable J msg is_choice (true_message code m) is_usable).one_word

      in_agreeing : In (systematic_word code J msg) (agreeing code J msg)
      in_agreeing = subst (λ l. In (systematic_word code J msg) l) (sym the_word) (here refl)

      word_in : In (systematic_word code J msg) (codewords code) × (agrees (systematic_word code J msg) J msg ≡ true)
      unfolding agreeing
      word_in = filter_in (λ w. agrees w J msg) (codewords code) in_agreeing

      pub systematic_codeword : codeword code (systematic_word code J msg) ≡ true
      unfolding codeword
      systematic_codeword = true_any (same (systematic_word code J msg)) word_in.0 (same_refl (systematic_word code J msg))

      pub systematic_entries : entries (systematic_word code J msg) J ≡ msg
      unfolding entries agrees
      systematic_entries = same_true _ _ word_in.1

    module _ (w : List ℕ) (c : codeword code w ≡ true) where
      pub codeword_symbols : All (λ s. s < q code) w
      codeword_symbols =
          let (f, u, e) = codeword_of code a w c in
          subst (λ w. All (λ s. s < q code) w) e
          (symbols_true code _ ((demand2 code done).word_symbols f (true_message code (coefficients_listed (laws code a) u))))

      pub codeword_length : length w ≡ n code
      codeword_length = let (f, u, e) = codeword_of code a w c in ap length (sym e) ∙ (demand2 code done).word_length f

      pub codeword_listed : Listed (q code) code.k (entries w J)
      codeword_listed = entries_listed w codeword_symbols codeword_length

      -- THEOREM: a codeword is the one of its symbols at the picked places
      pub codeword_by : w ≡ systematic_word code J (entries w J)
      unfolding codeword agreeing agrees entries
      codeword_by =
          let (v, i, s) = any_true (same w) (codewords code) c in
          let i' : In w (codewords code) = subst (λ v. In v (codewords code)) (sym (same_true w v s)) i in
          in_one (subst (λ l. In w l) (the_word (entries w J) codeword_listed) (in_filter (λ v. agrees v J (entries w J)) i' (same_refl (entries w J))))

  -- ---- changes of what was received

  module _ (received trusts : List ℕ) (small : symbols code received ≡ true) (size : length received ≡ n code) where
    abbrev K : List ℕ
    K = picked code trusts

    pub here_listed : Listed (q code) code.k (entries received K)
    here_listed = entries_listed trusts received (symbols_true code received small) size

    pub changed_listed : {c : List ℕ} → Listed (q code) code.k c → Listed (q code) code.k (changed (entries received K) c)
    changed_listed {c} l =
        record {
          symbols = changed_below (laws code a).add_lt here_listed.symbols l.symbols;
          size = changed_length (entries received K) c ∙ here_listed.size;
        }

    pub word_codeword : {c : List ℕ} → Listed (q code) code.k c → codeword code (word_of code received trusts c) ≡ true
    unfolding word_of
    word_codeword l = systematic_codeword trusts _ (changed_listed l)

    pub word_agrees : {c : List ℕ} → Listed (q code) code.k c → entries (word_of code received trusts c) K ≡ changed (entries received K) c
    unfolding word_of
    word_agrees l = systematic_entries trusts _ (changed_listed l)

    module _ (w : List ℕ) (c : codeword code w ≡ true) where
      pub change_listed : Listed (q code) code.k (change_of code received trusts w)
      change_listed = changed_listed (codeword_listed trusts w c)

      -- THEOREM: a codeword is the word of its change
      pub word_change : word_of code received trusts (change_of code received trusts w) ≡ w
      unfolding word_of
      word_change =
          ap (systematic_word code K) (changed_twice (entries received K) (entries w K) (here_listed.size ∙ sym (codeword_listed trusts w c).size))
          ∙ sym (codeword_by trusts w c)

      -- THEOREM: and of no other
      pub one_change : filter (λ d. same (word_of code received trusts d) w) (all_lists (q code) code.k) ≡ change_of code received trusts w ∷ []
      one_change =
          only (change_of code received trusts w) (unique_filter (λ d. same (word_of code received trusts d) w) (unique_lists (q code) code.k))
          (in_filter (λ d. same (word_of code received trusts d) w) (in_lists change_listed) (eq_same _ _ word_change))
          (λ d i.
          let (j, s) = filter_in (λ d. same (word_of code received trusts d) w) (all_lists (q code) code.k) i in
          let l = lists_in (q code) code.k j in
          sym (changed_twice (entries received K) d (here_listed.size ∙ sym l.size))
          ∙ ap (changed (entries received K)) (sym (word_agrees l) ∙ ap (λ v. entries v K) (same_true (word_of code received trusts d) w s)))
