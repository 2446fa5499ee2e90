-- What the working space holds is what a block of tries needs: the difference of the codeword that changes nothing, places that have a trust, and rows of
-- symbols. Changes that cost as much by their own places as the best so far need no try.
use Prim.Native.Nat.{ℕ, ◌+◌, ◌*◌, ◌-◌, ◌<◌, ◌≤◌}
use mathlib.Core.Path.{◌≡◌, refl, sym, ◌∙◌, ap, subst}
use mathlib.Core.Bool.{true}
use mathlib.Core.List.{List, map, Memᴰ as In}
use native.Mathlib.Omega.{arith}
use lib.ListN.{length, get_or, set, take, drop}
use Rattle.elliptic.proofs.Points.{All}
use Rattle.codewords.specs.Code.{Code, q, n}
use Rattle.codewords.specs.Codewords.{index, row, codeword}
use Rattle.codewords.proofs.Accepted.{Accepted, accepted_done, laws}
use Rattle.codewords.proofs.Places.{all_at, true_message, symbols_true}
use Rattle.arrangement.specs.Arranged as arranged
use Rattle.solving.proofs.Arranged.{places_in_lem}
use Rattle.patterns.specs.Patterns.{amounts, none, pair}
use Rattle.patterns.specs.Best.{entries, changed, word_of}
use Rattle.patterns.proofs.Each.{all_each, all_mapped, amounts_in}
use Rattle.patterns.proofs.Patterns.{none_listed, set_listed}
use Rattle.patterns.proofs.Changes.{changed_length, changed_below}
use Rattle.patterns.proofs.Words.{codeword_symbols, codeword_length, word_codeword}
use Rattle.patterns.proofs.Linear.{row_codeword}
use Rattle.patterns.proofs.Computed.{computed}
use Rattle.picked_rows.specs.Stored.{Given, Prepared}
use Rattle.picked_rows.proofs.Rows.{lent_array}
use Rattle.picked_rows.proofs.Difference.{given_works}
use Rattle.tries.specs.Multiples.{Rows}
use Rattle.search.specs.declared.block.Found.{Found}
use Rattle.search.specs.Search.{values, price, IsTry, Runs}
use Rattle.search.proofs.Running.{runs_past}

-- the seventh array, as it is lent: the difference of the received word and the codeword that agrees with it at the picked places
pub base_part : {code : Code} {received trusts J work : List ℕ} → Prepared code received trusts J work
    → take (6 * n code + n code - 6 * n code) (drop (6 * n code) work) ≡ changed received (word_of code received trusts (none code.k))
base_part {code} {work = work} p = lent_array (n code) 6 (6 * n code) (6 * n code + n code) work refl refl ∙ p.base

-- ---- the picked places

module _ {code : Code} {received trusts J : List ℕ} (given : Given code received trusts J) where
  pub accepted : Accepted code
  accepted = accepted_done code given.done

  pub places_many : length J ≡ code.k
  places_many = (given_works given).full

  pub trust_places : arranged.Places (length trusts) J
  trust_places = rw given.trusted (places_in_lem (given_works given).placed)

  -- ---- the lists that a pass goes over

  is_row : (i : ℕ) → codeword code (row code J (index i)) ≡ true
  is_row i = subst (λ J. codeword code (row code J (index i)) ≡ true) (sym given.is_picked) (row_codeword code given.done trusts i)

  pub pair_rows : {base lateRow earlyRow : List ℕ} (late early : ℕ) → base ≡ changed received (word_of code received trusts (none code.k))
      → lateRow ≡ row code J (index late) → earlyRow ≡ row code J (index early) → Rows code.field trusts base lateRow earlyRow
  pair_rows {base} {lateRow} {earlyRow} late early eb el ee =
      record {
        differences = ap length eb ∙ changed_length received _ ∙ given.size ∙ sym given.trusted;
        lates = row_length late el;
        rows = row_length early ee;
        most = omega (arith, accepted.n_most, given.trusted);
        difference_below =
            all_at 0
            (subst (λ l. All (λ s. s < q code) l) (sym eb) (changed_below (laws code accepted).add_lt (symbols_true code received given.small) word_below));
        late_below = row_below late el;
        row_below = row_below early ee;
      }
    where
      row_length : {r : List ℕ} (i : ℕ) → r ≡ row code J (index i) → length r ≡ length trusts
      row_length i e = ap length e ∙ codeword_length code given.done trusts _ (is_row i) ∙ sym given.trusted

      row_below : {r : List ℕ} (i : ℕ) → r ≡ row code J (index i) → (j : ℕ) → j < length r → get_or r j 0 < q code
      row_below i e = all_at 0 (subst (λ l. All (λ s. s < q code) l) (sym e) (codeword_symbols code given.done trusts _ (is_row i)))

      word_below : All (λ s. s < q code) (word_of code received trusts (none code.k))
      word_below =
          codeword_symbols code given.done trusts _
          (word_codeword code given.done received trusts given.small given.size (none_listed (omega (arith, (laws code accepted).one_lt))))

  -- ---- changes that need no try

  pub single_past : {f : Found} (left i : ℕ) → i < code.k → IsTry code received trusts f → f.cost ≤ get_or (entries trusts J) i 0
      → Runs code received trusts f left (values (q code) (none code.k) i) f
  single_past {f} left i h t le = runs_past left t (all_mapped (λ d. set (none code.k) i d) (amounts (q code)) dear)
    where
      dear : (d : ℕ) → In d (amounts (q code)) → f.cost ≤ price code received trusts (set (none code.k) i d)
      dear d j =
          let w = computed code given.done received trusts given.small given.size given.trusted in
          let some = (amounts_in (q code) j).0 in
          let one = w.weight_single i d h (λ z. omega arith) in
          let least = w.weight_least (set (none code.k) i d) (true_message code (set_listed i j (none_listed (omega (arith, (laws code accepted).one_lt))))) in
          let le' = subst (λ J. f.cost ≤ get_or (entries trusts J) i 0) given.is_picked le in
          omega (arith, le', one, least)

  pub pair_past : {f : Found} (left late early : ℕ) → late < code.k → early < late → IsTry code received trusts f
      → f.cost ≤ get_or (entries trusts J) late 0 + get_or (entries trusts J) early 0 → Runs code received trusts f left (pair (q code) code.k late early) f
  unfolding pair
  pair_past {f} left late early h g t le =
      runs_past left t
      (all_each (λ d. map (λ e. set (set (none code.k) late d) early e) (amounts (q code))) (amounts (q code))
      (λ d i. all_mapped (λ e. set (set (none code.k) late d) early e) (amounts (q code)) (λ e j. dear d e i j)))
    where
      dear : (d e : ℕ) → In d (amounts (q code)) → In e (amounts (q code)) → f.cost ≤ price code received trusts (set (set (none code.k) late d) early e)
      dear d e i j =
          let w = computed code given.done received trusts given.small given.size given.trusted in
          let nd = (amounts_in (q code) i).0 in
          let ne = (amounts_in (q code) j).0 in
          let two = w.weight_pair late early d e h g (λ z. omega arith) (λ z. omega arith) in
          let small = set_listed early j (set_listed late i (none_listed (omega (arith, (laws code accepted).one_lt)))) in
          let least = w.weight_least (set (set (none code.k) late d) early e) (true_message code small) in
          let le' = subst (λ J. f.cost ≤ get_or (entries trusts J) late 0 + get_or (entries trusts J) early 0) given.is_picked le in
          omega (arith, le', two, least)
