-- The word that is written: the received word with a difference, symbol after symbol, and multiples of the rows of changed places.
use Prim.Native.Nat.{ℕ, ◌+◌, ◌*◌, ◌-◌, ◌<◌, ◌≤◌}
use mathlib.Core.Path.{◌≡◌, sym, ◌∙◌, ap, ap₂}
use mathlib.Core.List.{List, ◌++◌, append-nil}
use lib.Bits.{bit_xor}
use lib.ListN.{length, take, drop, get_or, set, drop_of_length-le}
use lib.Seq.{take_all}
use Rattle.basics.proofs.Loops.{next, stored}
use Rattle.field.specs.Sum.{◌⊕◌}
use Rattle.elliptic.specs.Pair.{add_scaled}
use Rattle.codewords.specs.Code.{Code, arithmetic, q, n}
use Rattle.codewords.specs.Codewords.{index, row}
use Rattle.codewords.proofs.Listing.{Listed}
use Rattle.patterns.specs.Patterns.{none}
use Rattle.patterns.specs.Best.{changed, cost, tried, word_of, best, best_cost}
use Rattle.patterns.proofs.Patterns.{none_listed, set_below}
use Rattle.patterns.proofs.Weights.{none_at}
use Rattle.patterns.proofs.Words.{codeword_length, word_codeword}
use Rattle.patterns.proofs.Changes.{changed_twice}
use Rattle.patterns.proofs.Linear.{word_set}
use Rattle.patterns.proofs.Best.{some}
use Rattle.patterns.proofs.Runs.{cheapest_map}
use Rattle.picked_rows.specs.Stored.{Given, Prepared}
use Rattle.search.specs.declared.block.Found.{Found}
use Rattle.search.specs.Found.{change_of}
use Rattle.search.specs.Search.{IsTry, Finds}
use Rattle.search.proofs.Settings.{base_part}

-- what is written, to i, and what is left
abbrev pub applied : ℕ → List ℕ → List ℕ → List ℕ → List ℕ
applied i received difference out = take i out ++ changed (drop i received) (drop i difference)

module _ (i : ℕ) (received difference out : List ℕ) where
  pub apply_turn : i < length received → i < length difference → i < length out
      → applied (i + 1) received difference (set out i (bit_xor (get_or received i 0) (get_or difference i 0))) ≡ applied i received difference out
  unfolding changed ◌⊕◌
  apply_turn h k l = stored (λ _. changed (drop (i + 1) received) (drop (i + 1) difference)) out i _ l ∙ rw (next received 0 i h, next difference 0 i k)

  pub apply_end : length received ≤ i → length out ≤ i → applied i received difference out ≡ out
  unfolding changed
  apply_end h l = rw (drop_of_length-le received h, take_all i out l) (append-nil out)

-- ---- a try's codeword: that of no change, and then of two places

module _ {code : Code} {received trusts J work : List ℕ} (p : Prepared code received trusts J work) {found : Found} (t : IsTry code received trusts found) where
  abbrev given : Given code received trusts J
  given = p.given

  abbrev word : List ℕ → List ℕ
  word = word_of code received trusts

  abbrev Small : List ℕ → Type 0
  Small = Listed (q code) code.k

  none_small : Small (none code.k)
  none_small = none_listed (some code given.done received trusts given.small given.size)

  -- the difference brings the word back
  base_word : {out : List ℕ} → out ≡ changed received (take (6 * n code + n code - 6 * n code) (drop (6 * n code) work)) → out ≡ word (none code.k)
  base_word e =
      e ∙ ap (changed received) (base_part p)
      ∙ changed_twice received (word (none code.k))
      (given.size
      ∙ sym (codeword_length code given.done trusts (word (none code.k)) (word_codeword code given.done received trusts given.small given.size none_small)))

  more : {c r out new : List ℕ} (i d : ℕ) → Small c → i < code.k → d < q code → get_or c i 0 ≡ 0
      → out ≡ word c → r ≡ row code J (index i) → new ≡ add_scaled (arithmetic code) d r out → new ≡ word (set c i d)
  more {c} i d l h b z is_IsWord is_row e =
      e ∙ ap₂ (add_scaled (arithmetic code) d) (is_row ∙ ap (λ K. row code K (index i)) given.is_picked) is_IsWord
      ∙ sym (word_set code given.done received trusts given.small given.size c l i d h b z)

  -- THEOREM: the codeword of what has been found
  pub found_word : {base r first s last : List ℕ} → base ≡ changed received (take (6 * n code + n code - 6 * n code) (drop (6 * n code) work))
      → r ≡ row code J (index found.late) → first ≡ add_scaled (arithmetic code) found.d r base
      → s ≡ row code J (index found.early) → last ≡ add_scaled (arithmetic code) found.e s first → last ≡ word (change_of code.k found)
  found_word is_base is-r is_first is-s is_last =
      more found.early found.e (set_below found.late t.d_lt none_small) t.early_in t.e_lt t.apart
      (more found.late found.d none_small t.late_in t.d_lt (none_at code.k found.late t.late_in) (base_word is_base) is-r is_first) is-s is_last

-- ---- the best word is that of the best change

pub found_best : {code : Code} {received trusts out : List ℕ} {budget : ℕ} {r : Found} → Finds code received trusts budget r
    → out ≡ word_of code received trusts (change_of code.k r) → (out ≡ best code received trusts budget) × (r.cost ≡ best_cost code received trusts budget)
unfolding best best_cost
found_best {code} {received} {trusts} {budget = budget} f e =
    let same = ap (word_of code received trusts) f.best ∙ sym (cheapest_map (cost received trusts) (word_of code received trusts) (none code.k) (tried code budget)) in
    (e ∙ same, f.is_try.costs ∙ ap (cost received trusts) same)
