-- The codeword that agrees with the received word at the picked places is built by rows: with the first i of its symbols there and zeros behind them,
-- one symbol more adds a multiple of its row, to the codeword and to its difference from what was received alike.
use Prim.Native.Nat.{ℕ, zero, suc, ◌+◌, ◌-◌, ◌<◌, ◌≤◌}
use mathlib.Core.Path.{◌≡◌, refl, sym, ◌∙◌, ap, ap₂}
use mathlib.Core.Bool.{Bool, true, false, cond}
use mathlib.Core.List.{List, [], ◌∷◌, ◌++◌}
use native.Mathlib.Omega.{arith}
use native.Mathlib.Decide.{ℕ_discrete, dec_lt}
use lib.Dec.{eqb, ltb}
use lib.ListN.{length, get_or, set, length-set}
use lib.Seq.{ext_get_or, get_or-set_same, get_or-set_other}
use borrow.Author.Tests.{ne_eqb, lt-ltb, le-ltb}
use Rattle.basics.specs.Lists.{table}
use Rattle.basics.proofs.Lists.{both_left, both_right, length_table, get_or_table, get_or_map_in}
use Rattle.field.specs.Sum.{◌⊕◌}
use Rattle.field.specs.Field.{Arithmetic, Field}
use Rattle.field.proofs.Sum.{⊕_zero, zero_⊕, ⊕_self}
use Rattle.field.proofs.Laws.{mul_one, ·_comm, zero_lt}
use Rattle.elliptic.specs.Pair.{add_scaled}
use Rattle.elliptic.proofs.Points.{All, All.nil, All.cons}
use Rattle.codewords.specs.Code.{Code, arithmetic, q, n}
use Rattle.codewords.specs.Codewords.{index, symbol_at, all_places, places, choice, codeword, unit_message, systematic_word, row}
use Rattle.codewords.proofs.Listing.{Listed}
use Rattle.codewords.proofs.Accepted.{Accepted, accepted_done, laws}
use Rattle.codewords.proofs.Places.{all_at, message_listed}
use Rattle.codewords.proofs.Demand3.{unit_message_lem}
use Rattle.solving.specs.Given.{Works}
use Rattle.patterns.specs.Patterns.{none}
use Rattle.patterns.specs.Best.{entries, changed, picked, word_of}
use Rattle.patterns.proofs.Words.{is_choice, is_usable, k_places, here_listed, systematic_codeword, codeword_symbols, codeword_length}
use Rattle.patterns.proofs.Linear.{systematic_moved}
use Rattle.patterns.proofs.Slots.{difference_add}
use Rattle.picked_rows.specs.Stored.{Given, Summed, Prepared, Put}

-- ---- the places work

pub given_works : {code : Code} {received trusts J : List ℕ} → Given code received trusts J → Works code J
unfolding choice places
given_works {code} {trusts = trusts} g =
    let c = is_choice code g.done trusts in
    let here : places code (picked code trusts) ≡ true = both_left (places code (picked code trusts)) _ c in
    rw g.is_picked
    (record {
      placed = record { done = g.done; are_all_places = both_left (all_places code _) _ here; differ = both_right (all_places code _) _ here };
      full = k_places code g.done trusts;
      works = is_usable code g.done trusts;
    })

-- ---- the first i of k symbols, and zeros behind them

all_snoc : {A : Type 0} {P : A → Type 0} {l : List A} {a : A} → All P l → P a → All P (l ++ a ∷ [])
all_snoc nil h = cons h nil
all_snoc (cons k ks) h = cons k (all_snoc ks h)

abbrev pub firsts : ℕ → List ℕ → ℕ → List ℕ
firsts k r i = table (λ j. cond (ltb j i) (get_or r j 0) 0) k

module _ (k : ℕ) (r : List ℕ) where
  first_in : (i j : ℕ) → j < k → j < i → get_or (firsts k r i) j 0 ≡ get_or r j 0
  first_in i j h l = get_or_table (λ j. cond (ltb j i) (get_or r j 0) 0) k j 0 h ∙ ap (λ b. cond b (get_or r j 0) 0) (lt-ltb j i l)

  first_past : (i j : ℕ) → j < k → i ≤ j → get_or (firsts k r i) j 0 ≡ 0
  first_past i j h l = get_or_table (λ j. cond (ltb j i) (get_or r j 0) 0) k j 0 h ∙ ap (λ b. cond b (get_or r j 0) 0) (le-ltb j i l)

  firsts_length : (i : ℕ) → length (firsts k r i) ≡ k
  firsts_length i = length_table (λ j. cond (ltb j i) (get_or r j 0) 0) k

  firsts_more : (i : ℕ) → i < k → firsts k r (i + 1) ≡ set (firsts k r i) i (get_or (firsts k r i) i 0 ⊕ get_or r i 0)
  firsts_more i h =
      ext_get_or 0 (firsts k r (i + 1)) (set (firsts k r i) i v) (firsts_length (i + 1) ∙ sym (length-set (firsts k r i) i v ∙ firsts_length i))
      (λ j g. by j (omega (arith, g, firsts_length (i + 1))) (ℕ_discrete j i))
    where
      v : ℕ
      v = get_or (firsts k r i) i 0 ⊕ get_or r i 0

      other : (j : ℕ) → j < k → (j ≡ i → ⊥) → Dec (j < i) → get_or (firsts k r (i + 1)) j 0 ≡ get_or (firsts k r i) j 0
      other j g e (yes l) = first_in (i + 1) j g (omega arith) ∙ sym (first_in i j g l)
      other j g e (no l) = first_past (i + 1) j g (omega (arith, l, e)) ∙ sym (first_past i j g (omega arith))

      by : (j : ℕ) → j < k → Dec (j ≡ i) → get_or (firsts k r (i + 1)) j 0 ≡ get_or (set (firsts k r i) i v) j 0
      by j g (yes e) =
          ap (λ x. get_or (firsts k r (i + 1)) x 0) e ∙ first_in (i + 1) i h (omega arith)
          ∙ sym (get_or-set_same (firsts k r i) i v 0 (omega (arith, h, firsts_length i))
          ∙ ap (λ x. x ⊕ get_or r i 0) (first_past i i h (omega arith)) ∙ zero_⊕ (get_or r i 0))
          ∙ ap (λ x. get_or (set (firsts k r i) i v) x 0) (sym e)
      by j g (no e) = other j g e (dec_lt j i) ∙ sym (get_or-set_other (firsts k r i) i j v 0 e)

  firsts_all : length r ≡ k → firsts k r k ≡ r
  firsts_all e = ext_get_or 0 (firsts k r k) r (firsts_length k ∙ sym e) (λ j g. let h : j < k = omega (arith, g, firsts_length k) in first_in k j h h)

  -- 1 is moved to 0
  firsts_none : 1 ≤ k → firsts k r 0 ≡ set (unit_message k (index 0)) 0 (get_or (unit_message k (index 0)) 0 0 ⊕ 1)
  unfolding unit_message
  firsts_none h =
      ext_get_or 0 (firsts k r 0) (set u 0 v) (firsts_length 0 ∙ sym (length-set u 0 v ∙ length_table {A = ℕ} (λ j. cond (eqb j 0) 1 0) k))
      (λ j g. let l : j < k = omega (arith, g, firsts_length 0) in first_past 0 j l (omega arith) ∙ sym (by j l (ℕ_discrete j 0)))
    where
      u : List ℕ
      u = table (λ j. cond (eqb j 0) 1 0) k

      v : ℕ
      v = get_or u 0 0 ⊕ 1

      by : (j : ℕ) → j < k → Dec (j ≡ 0) → get_or (set u 0 v) j 0 ≡ 0
      by j g (yes e) =
          ap (λ x. get_or (set u 0 v) x 0) e ∙ get_or-set_same u 0 v 0 (omega (arith, h, length_table {A = ℕ} (λ j. cond (eqb j 0) 1 0) k))
          ∙ ap (λ x. x ⊕ 1) (get_or_table (λ j. cond (eqb j 0) 1 0) k 0 0 h) ∙ ⊕_self 1
      by j g (no e) = get_or-set_other u 0 j v 0 e ∙ get_or_table (λ j. cond (eqb j 0) 1 0) k j 0 g ∙ ap (λ b. cond b 1 0) (ne_eqb j 0 e)

  firsts_below : {q : ℕ} → 0 < q → All (λ s. s < q) r → length r ≡ k → (i : ℕ) → Listed q k (firsts k r i)
  firsts_below {q} z s e i = record { symbols = go k (omega arith); size = firsts_length i }
    where
      at : (j : ℕ) → j < k → (b : Bool) → cond b (get_or r j 0) 0 < q
      at j h true = all_at 0 s j (omega (arith, h, e))
      at j h false = z

      go : (m : ℕ) → m ≤ k → All (λ s. s < q) (table (λ j. cond (ltb j i) (get_or r j 0) 0) m)
      go zero h = nil
      go (suc m) h = all_snoc (go m (omega arith)) (at m h (ltb m i))

-- ---- lists of sums

-- what is added twice is not there
changed_twice_added : {F : Arithmetic} → Field F → (u : List ℕ) {v : List ℕ} → All (λ s. s < F.q) v → length u ≡ length v → changed u (add_scaled F 1 v v) ≡ u
unfolding changed add_scaled
changed_twice_added K [] nil e = refl
changed_twice_added K [] (cons h hs) e = refl
changed_twice_added K (a ∷ u) nil e = absurd (omega arith)
changed_twice_added K (a ∷ u) (cons {a = b} h hs) e =
    ap₂ ◌∷◌ (ap (λ x. a ⊕ (b ⊕ x)) (·_comm K 1 b ∙ mul_one K b h) ∙ ap (λ x. a ⊕ x) (⊕_self b) ∙ ⊕_zero a) (changed_twice_added K u hs (omega arith))

changed_none : (k : ℕ) (u : List ℕ) → length u ≡ k → changed u (none k) ≡ u
unfolding changed
changed_none zero [] e = refl
changed_none zero (a ∷ u) e = absurd (omega arith)
changed_none (suc k) [] e = refl
changed_none (suc k) (a ∷ u) e = ap₂ ◌∷◌ (⊕_zero a) (changed_none k u (omega arith))

-- ---- the loop over the rows: the difference from the codeword that has the first i symbols at the picked places

pub record Added (code : Code) (received trusts difference : List ℕ) (i : ℕ) : Type 0 where
  pub is : difference ≡ changed received (systematic_word code (picked code trusts) (firsts code.k (entries received (picked code trusts)) i))

module _ {code : Code} {received trusts J : List ℕ} (g : Given code received trusts J) where
  abbrev a : Accepted code
  a = accepted_done code g.done

  abbrev K : List ℕ
  K = picked code trusts

  abbrev r : List ℕ
  r = entries received K

  here : Listed (q code) code.k r
  here = here_listed code g.done received trusts g.small g.size

  listed : (i : ℕ) → Listed (q code) code.k (firsts code.k r i)
  listed i = firsts_below code.k r (zero_lt (laws code a)) here.symbols here.size i

  unit_listed : (i : ℕ) → Listed (q code) code.k (unit_message code.k (index i))
  unit_listed i = message_listed code _ (unit_message_lem code a i)

  row_codeword : (i : ℕ) → codeword code (row code K (index i)) ≡ true
  unfolding row
  row_codeword i = systematic_codeword code g.done trusts (unit_message code.k (index i)) (unit_listed i)

  row_length : (i : ℕ) → length (row code K (index i)) ≡ n code
  row_length i = codeword_length code g.done trusts (row code K (index i)) (row_codeword i)

  pub added_none : {difference : List ℕ} → difference ≡ received → Added code received trusts difference 0
  unfolding row
  added_none e =
      record {
        is =
            e
            ∙ sym (ap (λ m. changed received (systematic_word code K m)) (firsts_none code.k r a.k_least)
            ∙ ap (changed received) (systematic_moved code g.done trusts 0 1 a.k_least (laws code a).one_lt (unit_message code.k (index 0)) (unit_listed 0))
            ∙ changed_twice_added (laws code a) received (codeword_symbols code g.done trusts (row code K (index 0)) (row_codeword 0))
            (g.size ∙ sym (row_length 0)));
      }

  -- t is the symbol received at the place p
  pub added_row : {difference difference' v : List ℕ} {t p : ℕ} (i : ℕ) → i < code.k → p ≡ get_or J i 0 → t ≡ get_or received (p - 1) 0
      → v ≡ row code J (index i) → difference' ≡ add_scaled (arithmetic code) t v difference
      → Added code received trusts difference i → Added code received trusts difference' (i + 1)
  unfolding entries symbol_at
  added_row {t = t} {p = p} i h ep et ev e d =
      record {
        is =
            e ∙ ap₂ (add_scaled (arithmetic code) t) (ev ∙ ap (λ j. row code j (index i)) g.is_picked) d.is
            ∙ sym (difference_add (arithmetic code) t received (row code K (index i)) w (g.size ∙ sym size) (row_length i ∙ sym size))
            ∙ ap (λ s. changed received (add_scaled (arithmetic code) s (row code K (index i)) w)) same
            ∙ ap (changed received) (sym (systematic_moved code g.done trusts i (get_or r i 0) h small m (listed i)))
            ∙ ap (λ m. changed received (systematic_word code K m)) (sym (firsts_more code.k r i h));
      }
    where
      m : List ℕ
      m = firsts code.k r i

      w : List ℕ
      w = systematic_word code K m

      size : length w ≡ n code
      size = codeword_length code g.done trusts w (systematic_codeword code g.done trusts m (listed i))

      small : get_or r i 0 < q code
      small = all_at 0 here.symbols i (omega (arith, h, here.size))

      same : t ≡ get_or r i 0
      same =
          et ∙ ap (λ x. get_or received (x - 1) 0) (ep ∙ ap (λ j. get_or j i 0) g.is_picked)
          ∙ sym (get_or_map_in (λ p. get_or received (p - 1) 0) K i 0 0 (omega (arith, h, k_places code g.done trusts)))

  pub added_all : {difference : List ℕ} {i : ℕ} → i ≡ code.k → Added code received trusts difference i
      → difference ≡ changed received (word_of code received trusts (none code.k))
  unfolding word_of
  added_all e d =
      d.is
      ∙ ap (λ m. changed received (systematic_word code K m))
      (ap (firsts code.k r) e ∙ firsts_all code.k r here.size ∙ sym (changed_none code.k r here.size))

-- ---- the difference is put behind the other arrays, which stay

pub put_difference : {code : Code} {received trusts J difference work work' : List ℕ} {size : ℕ} → Given code received trusts J
    → size ≡ n code → length work' ≡ length work → Summed code J work → difference ≡ changed received (word_of code received trusts (none code.k))
    → Put size 6 difference work work' → Prepared code received trusts J work'
put_difference g e kept s d p =
    let put = rw e at p in
    let points = put.others 0 (λ d. omega arith) in
    let lows = put.others 1 (λ d. omega arith) in
    let highs = put.others 2 (λ d. omega arith) in
    let first = put.others 3 (λ d. omega arith) in
    let second = put.others 4 (λ d. omega arith) in
    record {
      given = g;
      summed =
          record {
            stored = record { room = omega (arith, kept, s.stored.room); ready = rw (points, lows, highs, first, second) s.stored.ready };
            left = rw (put.others 5 (λ d. omega arith), points, lows, highs, first, second) s.left;
          };
      base = put.here ∙ d;
    }
