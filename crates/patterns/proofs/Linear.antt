-- Codewords add up: a change of one more place adds a multiple of that place's row to the codeword.
use Rattle.basics.specs.Outcome.{Done}
use Prim.Native.Nat.{ℕ, zero, suc, ◌-◌, ◌<◌}
use mathlib.Core.Path.{◌≡◌, refl, sym, ◌∙◌, ap, ap₂}
use mathlib.Core.Bool.{true, cond}
use mathlib.Core.List.{List, [], ◌∷◌, map}
use native.Mathlib.Omega.{arith}
use native.Mathlib.Nat.{le_of_suc-le-suc}
use native.Mathlib.Decide.{ℕ_discrete}
use lib.Dec.{eqb}
use lib.ListN.{length, get_or, set, length-set}
use lib.Seq.{ext_get_or, get_or-set_same, get_or-set_other}
use borrow.Author.Tests.{eq-eqb, ne_eqb}
use Rattle.basics.proofs.Lists.{get_or_map_in, get_or_table}
use Rattle.field.specs.Sum.{◌⊕◌}
use Rattle.field.specs.Field.{Arithmetic}
use Rattle.field.proofs.Sum.{⊕_zero}
use Rattle.field.proofs.Laws.{mul_one, ·_zero}
use Rattle.elliptic.specs.declared.Point.{Point}
use Rattle.elliptic.specs.Functions.{value}
use Rattle.elliptic.specs.Pair.{add_scaled}
use Rattle.elliptic.proofs.Function.{evaluate_add}
use Rattle.elliptic.proofs.Values.{value_evaluate}
use Rattle.codewords.specs.Code.{Code, arithmetic, q, n, points, code_answer}
use Rattle.codewords.specs.Codewords.{index, symbol_at, symbols, word, codeword, unit_message, systematic_word, row}
use Rattle.codewords.proofs.Listing.{Listed}
use Rattle.codewords.proofs.Accepted.{Accepted, accepted_done, laws}
use Rattle.codewords.proofs.Coefficients.{coefficients_add}
use Rattle.codewords.proofs.Places.{all_at, message_listed}
use Rattle.codewords.proofs.Words.{Function, is_codeword, codeword_of}
use Rattle.codewords.proofs.Demand3.{unit_message_lem}
use Rattle.patterns.specs.Best.{entries, changed, picked, word_of}
use Rattle.patterns.proofs.Words.{are_places, k_places, entries_length, systematic_codeword, systematic_entries, codeword_length, codeword_by, here_listed, changed_listed}

-- ---- sums of lists, entry by entry

module _ (F : Arithmetic) where
  infixl 70 ◌·◌
  open F use {◌·◌}

  pub get_or_add : (t : ℕ) (r w : List ℕ) (j : ℕ) → length r ≡ length w → j < length w → get_or (add_scaled F t r w) j 0 ≡ get_or w j 0 ⊕ t · get_or r j 0
  unfolding add_scaled
  get_or_add t [] [] j e h = absurd (omega arith)
  get_or_add t [] (b ∷ w) j e h = absurd (omega arith)
  get_or_add t (a ∷ r) [] j e h = absurd (omega arith)
  get_or_add t (a ∷ r) (b ∷ w) zero e h = refl
  get_or_add t (a ∷ r) (b ∷ w) (suc j) e h = get_or_add t r w j (omega arith) (le_of_suc-le-suc h)

pub get_or_changed : (u c : List ℕ) (j : ℕ) → length u ≡ length c → j < length u → get_or (changed u c) j 0 ≡ get_or u j 0 ⊕ get_or c j 0
unfolding changed
get_or_changed [] c j e h = absurd (omega arith)
get_or_changed (a ∷ u) [] j e h = absurd (omega arith)
get_or_changed (a ∷ u) (d ∷ c) zero e h = refl
get_or_changed (a ∷ u) (d ∷ c) (suc j) e h = get_or_changed u c j (omega arith) (le_of_suc-le-suc h)

-- ---- sums of codewords

module _ (code : Code) (done : code_answer code ≡ Done) where
  abbrev a : Accepted code
  a = accepted_done code done

  abbrev F : Arithmetic
  F = arithmetic code

  word_add : (t : ℕ) (f g : List ℕ) → Function code a f → Function code a g → word code (add_scaled F t f g) ≡ add_scaled F t (word code f) (word code g)
  unfolding word add_scaled
  word_add t f g u v = go (points code)
    where
      both : Function code a (add_scaled F t f g)
      both = coefficients_add (laws code a) t u v

      go : (J : List Point) → map (value F (add_scaled F t f g)) J ≡ add_scaled F t (map (value F f) J) (map (value F g) J)
      go [] = refl
      go (P ∷ J) =
          ap₂ ◌∷◌
          (value_evaluate (laws code a) both.under P ∙ evaluate_add (laws code a) t f g P
          ∙ ap₂ (λ x y. x ⊕ F.◌·◌ t y) (sym (value_evaluate (laws code a) v.under P)) (sym (value_evaluate (laws code a) u.under P)))
          (go J)

  codeword_add : (t : ℕ) (r w : List ℕ) → codeword code r ≡ true → codeword code w ≡ true → codeword code (add_scaled F t r w) ≡ true
  codeword_add t r w c d =
      let (f, u, e) = codeword_of code a r c in
      let (g, v, h) = codeword_of code a w d in
      ap (codeword code) (sym (word_add t f g u v ∙ ap₂ (add_scaled F t) e h)) ∙ is_codeword code a (coefficients_add (laws code a) t u v)

  -- ---- a message with one symbol moved, at the picked places

  module _ (trusts : List ℕ) where
    abbrev J : List ℕ
    J = picked code trusts

    abbrev row_at : ℕ → List ℕ
    row_at i = row code J (index i)

    unit_listed : (i : ℕ) → Listed (q code) code.k (unit_message code.k (index i))
    unit_listed i = message_listed code _ (unit_message_lem code a i)

    pub row_codeword : (i : ℕ) → codeword code (row_at i) ≡ true
    unfolding row
    row_codeword i = systematic_codeword code done trusts (unit_message code.k (index i)) (unit_listed i)

    row_entries : (i : ℕ) → entries (row_at i) J ≡ unit_message code.k (index i)
    unfolding row
    row_entries i = systematic_entries code done trusts (unit_message code.k (index i)) (unit_listed i)

    entry_add : (t : ℕ) (r w : List ℕ) → length r ≡ n code → length w ≡ n code → (j : ℕ) → j < code.k
        → get_or (entries (add_scaled F t r w) J) j 0 ≡ get_or (entries w J) j 0 ⊕ F.◌·◌ t (get_or (entries r J) j 0)
    unfolding entries symbol_at
    entry_add t r w l m j h =
        let p : ℕ = get_or J j 0 in
        let h' : j < length J = omega (arith, k_places code done trusts) in
        let (least, most) = all_at 0 (are_places code done trusts).spots j h' in
        at (add_scaled F t r w) h' ∙ get_or_add F t r w (p - 1) (l ∙ sym m) (omega (arith, least, most, m)) ∙ ap₂ (λ x y. x ⊕ F.◌·◌ t y) (sym (at w h')) (sym (at r h'))
      where
        at : (v : List ℕ) → j < length J → get_or (map (λ p. get_or v (p - 1) 0) J) j 0 ≡ get_or v (get_or J j 0 - 1) 0
        at v h = get_or_map_in (λ p. get_or v (p - 1) 0) J j 0 0 h

    module _ (i d : ℕ) (h : i < code.k) (b : d < q code) where
      abbrev moved : List ℕ → List ℕ
      moved msg = set msg i (get_or msg i 0 ⊕ d)

      unit_add : (msg : List ℕ) → length msg ≡ code.k → (j : ℕ) → j < code.k
          → get_or msg j 0 ⊕ F.◌·◌ d (get_or (unit_message code.k (index i)) j 0) ≡ get_or (moved msg) j 0
      unfolding unit_message
      unit_add msg l j g = ap (λ x. get_or msg j 0 ⊕ F.◌·◌ d x) (get_or_table (λ j. cond (eqb j i) 1 0) code.k j 0 g) ∙ by (ℕ_discrete j i)
        where
          by : Dec (j ≡ i) → get_or msg j 0 ⊕ F.◌·◌ d (cond (eqb j i) 1 0) ≡ get_or (set msg i (get_or msg i 0 ⊕ d)) j 0
          by (yes e) =
              ap (λ t. get_or msg j 0 ⊕ F.◌·◌ d (cond t 1 0)) (eq-eqb j i e) ∙ ap₂ (λ x y. get_or msg x 0 ⊕ y) e (mul_one (laws code a) d b)
              ∙ sym (get_or-set_same msg i (get_or msg i 0 ⊕ d) 0 (omega arith)) ∙ ap (λ x. get_or (set msg i (get_or msg i 0 ⊕ d)) x 0) (sym e)
          by (no e) =
              ap (λ t. get_or msg j 0 ⊕ F.◌·◌ d (cond t 1 0)) (ne_eqb j i e) ∙ ap (λ y. get_or msg j 0 ⊕ y) (·_zero (laws code a) d) ∙ ⊕_zero (get_or msg j 0)
              ∙ sym (get_or-set_other msg i j (get_or msg i 0 ⊕ d) 0 e)

      -- THEOREM: the systematic word of a message with one symbol moved
      pub systematic_moved : (msg : List ℕ) → Listed (q code) code.k msg → systematic_word code J (moved msg) ≡ add_scaled F d (row_at i) (systematic_word code J msg)
      systematic_moved msg m = ap (systematic_word code J) (sym symbols) ∙ sym (codeword_by code done trusts w is)
        where
          v : List ℕ
          v = systematic_word code J msg

          w : List ℕ
          w = add_scaled F d (row_at i) v

          is_v : codeword code v ≡ true
          is_v = systematic_codeword code done trusts msg m

          is : codeword code w ≡ true
          is = codeword_add d (row_at i) v (row_codeword i) is_v

          symbols : entries w J ≡ set msg i (get_or msg i 0 ⊕ d)
          symbols =
              ext_get_or 0 (entries w J) (set msg i (get_or msg i 0 ⊕ d)) (entries_length code done trusts w ∙ sym (length-set msg i (get_or msg i 0 ⊕ d) ∙ m.size))
              (λ j g.
              let g' : j < code.k = omega (arith, g, entries_length code done trusts w) in
              entry_add d (row_at i) v (codeword_length code done trusts (row_at i) (row_codeword i)) (codeword_length code done trusts v is_v) j g'
              ∙ ap₂ (λ x y. get_or x j 0 ⊕ F.◌·◌ d (get_or y j 0)) (systematic_entries code done trusts msg m) (row_entries i) ∙ unit_add msg m.size j g')

-- ---- changes

changed_set : (u c : List ℕ) (i d : ℕ) → length u ≡ length c → get_or c i 0 ≡ 0 → changed u (set c i d) ≡ set (changed u c) i (get_or (changed u c) i 0 ⊕ d)
unfolding changed
changed_set [] c i d e z = refl
changed_set (a ∷ u) [] i d e z = absurd (omega arith)
changed_set (a ∷ u) (x ∷ c) zero d e z = ap (λ y. (y ⊕ d) ∷ changed u c) (sym (ap (λ y. a ⊕ y) z ∙ ⊕_zero a))
changed_set (a ∷ u) (x ∷ c) (suc i) d e z = ap (λ l. (a ⊕ x) ∷ l) (changed_set u c i d (omega arith) z)

module _ (code : Code) (done : code_answer code ≡ Done) (received trusts : List ℕ) (small : symbols code received ≡ true) (size : length received ≡ n code) where
  -- THEOREM: one place more is changed
  pub word_set : (c : List ℕ) → Listed (q code) code.k c → (i d : ℕ) → i < code.k → d < q code → get_or c i 0 ≡ 0
      → word_of code received trusts (set c i d) ≡ add_scaled (arithmetic code) d (row code (picked code trusts) (index i)) (word_of code received trusts c)
  unfolding word_of
  word_set c l i d h b z =
      let r : List ℕ = entries received (picked code trusts) in
      ap (systematic_word code (picked code trusts)) (changed_set r c i d ((here_listed code done received trusts small size).size ∙ sym l.size) z)
      ∙ systematic_moved code done trusts i d h b (changed r c) (changed_listed code done received trusts small size l)
