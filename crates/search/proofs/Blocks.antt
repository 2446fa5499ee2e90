-- What the multiples of a row say of the tries of its place: the try of each amount costs what the multiple costs, so the cheapest multiple is the best try.
use Prim.Native.Nat.{ℕ, zero, suc, ◌-◌, ◌<◌, ◌≤◌, min}
use mathlib.Core.Path.{◌≡◌, refl, sym, ◌∙◌, ap, ap₂, subst}
use mathlib.Core.Bool.{Bool, true, false, cond}
use mathlib.Core.List.{List, [], ◌∷◌, ◌++◌, map, append-nil, Memᴰ as In}
use native.Mathlib.Omega.{arith}
use native.Mathlib.Decide.{dec_lt}
use lib.Dec.{eqb, ltb}
use lib.ListN.{length, get_or, set, take}
use borrow.Author.Tests.{ne_eqb}
use Rattle.basics.specs.Lists.{table}
use Rattle.basics.proofs.Lists.{map_table, length_table, table_as}
use Rattle.field.specs.Field.{Arithmetic}
use Rattle.elliptic.specs.Pair.{add_scaled}
use Rattle.elliptic.proofs.Points.{All, All.nil, All.cons}
use Rattle.codewords.specs.Code.{Code, arithmetic, q, n}
use Rattle.codewords.specs.Codewords.{index, row}
use Rattle.codewords.proofs.Tests.{in_all}
use Rattle.codewords.proofs.Listing.{Listed}
use Rattle.patterns.specs.Patterns.{none, amounts}
use Rattle.patterns.specs.Cheapest.{weigh, cheaper, cheapest}
use Rattle.patterns.specs.Best.{changed, word_of}
use Rattle.patterns.proofs.Each.{all_mapped, counted_in}
use Rattle.patterns.proofs.Patterns.{none_listed, set_below}
use Rattle.patterns.proofs.Cheapest.{cheapest_in}
use Rattle.patterns.proofs.Weights.{none_at}
use Rattle.patterns.proofs.Words.{codeword_length, word_codeword}
use Rattle.patterns.proofs.Linear.{row_codeword, word_set}
use Rattle.patterns.proofs.Slots.{cost_difference, difference_add}
use Rattle.patterns.proofs.Best.{some}
use Rattle.patterns.proofs.Runs.{take_append}
use Rattle.picked_rows.specs.Stored.{Given}
use Rattle.tries.specs.Multiples.{Priced, price_of, multiple_tries, best_multiple}
use Rattle.search.specs.declared.block.Found.{Found}
use Rattle.search.specs.Found.{change_of, improved}
use Rattle.search.specs.Search.{values, price, IsTry, Runs}

module _ (A : Type 0) where
  abbrev nothing : List A
  nothing = []

  take_none : (i : ℕ) → take i nothing ≡ nothing
  take_none zero = refl
  take_none (suc i) = refl

take_table : {A : Type 0} (g : ℕ → A) (m n : ℕ) → take m (table g n) ≡ table g (min m n)
take_table g zero zero = let e : min 0 0 ≡ 0 = omega arith in ap (table g) (sym e)
take_table g (suc m) zero = let e : min (suc m) 0 ≡ 0 = omega arith in ap (table g) (sym e)
take_table {A} g m (suc n) =
    take_append m (table g n) (g n ∷ []) ∙ ap₂ (λ l k. l ++ take (m - k) (g n ∷ [])) (take_table g m n) (length_table g n) ∙ by (dec_lt n m)
  where
    by : Dec (n < m) → table g (min m n) ++ take (m - n) (g n ∷ []) ≡ table g (min m (suc n))
    by (yes h) =
        let e : min m n ≡ n = omega arith in
        let f : min m (suc n) ≡ suc n = omega arith in
        let k : m - n ≡ suc (m - suc n) = omega arith in
        ap₂ (λ a b. table g a ++ take b (g n ∷ [])) e k ∙ ap (λ l. table g n ++ (g n ∷ l)) (take_none A (m - suc n)) ∙ ap (table g) (sym f)
    by (no h) =
        let e : min m n ≡ min m (suc n) = omega arith in
        let k : m - n ≡ 0 = omega arith in
        ap₂ (λ a b. table g a ++ take b (g n ∷ [])) e k ∙ append-nil (table g (min m (suc n)))

-- the cheapest may be sought among what stands for the tries, if it has their prices
module _ {A B : Type 0} (stand : A → B) (pa : A → ℕ) (pb : B → ℕ) where
  stands : (a : A) {l : List A} → pb (stand a) ≡ pa a → All (λ x. pb (stand x) ≡ pa x) l
      → (cheapest pb (stand a) (map stand l) ≡ stand (cheapest pa a l)) × (pb (stand (cheapest pa a l)) ≡ pa (cheapest pa a l))
  unfolding cheapest cheaper
  stands a e nil = (refl, e)
  stands a e (cons {a = b} {l} h hs) =
      let t = ap₂ ltb h e in
      let w = stands (cheaper pa a b) (by (ltb (pa b) (pa a))) hs in
      (ap (λ x. cheapest pb (cond x (stand b) (stand a)) (map stand l)) t ∙ ap (λ x. cheapest pb x (map stand l)) (move (ltb (pa b) (pa a))) ∙ w.0, w.1)
    where
      by : (t : Bool) → pb (stand (cond t b a)) ≡ pa (cond t b a)
      by true = h
      by false = e

      move : (t : Bool) → cond t (stand b) (stand a) ≡ stand (cond t b a)
      move true = refl
      move false = refl

module _ {code : Code} {received trusts J base lateRow earlyRow : List ℕ} (given : Given code received trusts J)
    (is_base : base ≡ changed received (word_of code received trusts (none code.k))) (late early d : ℕ)
    (is_late : lateRow ≡ row code J (index late)) (is-early : earlyRow ≡ row code J (index early))
    (hl : late < code.k) (he : early < code.k) (hd : d < q code) (free : get_or (set (none code.k) late d) early 0 ≡ 0) where
  abbrev F : Arithmetic
  F = arithmetic code

  abbrev c : List ℕ
  c = set (none code.k) late d

  abbrev x : List ℕ
  x = add_scaled F d lateRow base

  abbrev word : List ℕ → List ℕ
  word = word_of code received trusts

  abbrev Small : List ℕ → Type 0
  Small = Listed (q code) code.k

  none_small : Small (none code.k)
  none_small = none_listed (some code given.done received trusts given.small given.size)

  c_small : Small c
  c_small = set_below late hd none_small

  long : {w : List ℕ} → Small w → length (word w) ≡ n code
  long {w} l = codeword_length code given.done trusts (word w) (word_codeword code given.done received trusts given.small given.size l)

  rows_long : (i : ℕ) → length (row code J (index i)) ≡ n code
  rows_long i = ap (λ J. length (row code J (index i))) given.is_picked ∙ codeword_length code given.done trusts _ (row_codeword code given.done trusts i)

  -- a change of one place more adds a multiple of its row to the difference
  difference_set : {w : List ℕ} → Small w → (i e : ℕ) → i < code.k → e < q code → get_or w i 0 ≡ 0
      → changed received (word (set w i e)) ≡ add_scaled F e (row code J (index i)) (changed received (word w))
  difference_set {w} l i e h b z =
      ap (changed received) (word_set code given.done received trusts given.small given.size w l i e h b z
      ∙ ap (λ K. add_scaled F e (row code K (index i)) (word w)) (sym given.is_picked))
      ∙ difference_add F e received (row code J (index i)) (word w) (given.size ∙ sym (long l)) (rows_long i ∙ sym (long l))

  moved : x ≡ changed received (word c)
  moved =
      ap₂ (add_scaled F d) is_late is_base ∙ sym (difference_set none_small late d hl hd (none_at code.k late hl))

  try_costs : (e : ℕ) → e < q code → price code received trusts (set c early e) ≡ weigh trusts (add_scaled F e earlyRow x)
  try_costs e h =
      cost_difference received trusts (word (set c early e)) (given.trusted ∙ sym given.size) (given.size ∙ sym (long (set_below early h c_small)))
      ∙ ap (weigh trusts) (difference_set c_small early e he h free ∙ ap₂ (add_scaled F e) (sym is-early) (sym moved))

  -- what a priced multiple stands for, where f has been found before
  abbrev stand : Found → Priced → List ℕ
  stand f p = cond (eqb p.1 0) (change_of code.k f) (set c early p.1)

  abbrev tries : ℕ → List Priced
  tries count = map (λ e. (weigh trusts (add_scaled F e earlyRow x), e)) (table suc count)

  tries_are : (count : ℕ) → tries count ≡ multiple_tries F trusts earlyRow x count
  tries_are count = map_table (λ e. (weigh trusts (add_scaled F e earlyRow x), e)) suc count

  below : (count : ℕ) → count ≤ q code - 1 → {e : ℕ} → In e (table suc count) → (1 ≤ e) × (e < q code)
  below count h i = let w = counted_in count i in (w.0, omega (arith, w.1, h, w.0))

  -- the tries of the place, as many as there are left
  tries_stand : (f : Found) (left : ℕ) → map (stand f) (tries (min left (q code - 1))) ≡ take left (values (q code) c early)
  unfolding amounts
  tries_stand f left =
      ap (map (stand f)) (tries_are (min left (q code - 1))) ∙ map_table (stand f) _ (min left (q code - 1))
      ∙ table_as _ (λ i. set c early (suc i)) (min left (q code - 1)) (λ i h. ap (λ y. cond y (change_of code.k f) (set c early (suc i))) (ne_eqb (suc i) 0 (λ z. omega arith)))
      ∙ sym (ap (take left) (map_table (λ e. set c early e) suc (q code - 1)) ∙ take_table (λ i. set c early (suc i)) left (q code - 1))

  -- THEOREM
  pub runs_block : {f r : Found} (left : ℕ) → IsTry code received trusts f
      → r ≡ improved f (best_multiple F trusts earlyRow (add_scaled F d lateRow base) f.cost (min left (q code - 1))) late d early
      → Runs code received trusts f left (values (q code) (set (none code.k) late d) early) r
  runs_block {f} {r} left t e =
      subst (λ r. Runs code received trusts f left (values (q code) c early) r) (sym (e ∙ ap (λ l. improved f (cheapest price_of (f.cost, 0) l) late d early) (sym (tries_are count))))
      (record {
        is_try = is_try (eqb b.1 0) refl;
        best = keeps (eqb b.1 0) ∙ sym w.0 ∙ ap (cheapest (price code received trusts) (change_of code.k f)) (tries_stand f left);
      })
    where
      count : ℕ
      count = min left (q code - 1)

      b : Priced
      b = cheapest price_of (f.cost, 0) (tries count)

      few : count ≤ q code - 1
      few = omega arith

      w : (cheapest (price code received trusts) (stand f (f.cost, 0)) (map (stand f) (tries count)) ≡ stand f b) × (price code received trusts (stand f b) ≡ price_of b)
      w =
          stands (stand f) price_of (price code received trusts) (f.cost, 0) (sym t.costs)
          (all_mapped (λ e. (weigh trusts (add_scaled F e earlyRow x), e)) (table suc count)
          (λ e i. let h = below count few i in ap (λ y. price code received trusts (cond y (change_of code.k f) (set c early e))) (ne_eqb e 0 (λ z. omega arith)) ∙ try_costs e h.1))

      inside : b.1 < q code
      inside =
          in_all (cheapest_in price_of (f.cost, 0) (tries count)) (all (all_mapped (λ e. (weigh trusts (add_scaled F e earlyRow x), e)) (table suc count) (λ e i. (below count few i).1)))
        where
          all : All (λ p. p.1 < q code) (tries count) → All (λ p. p.1 < q code) ((f.cost, 0) ∷ tries count)
          all h = cons (some code given.done received trusts given.small given.size) h

      new : Found
      new = record { cost = b.0; late = late; d = d; early = early; e = b.1 }

      keeps : (y : Bool) → change_of code.k (cond y f new) ≡ cond y (change_of code.k f) (set c early b.1)
      keeps true = refl
      keeps false = refl

      is_try : (y : Bool) → eqb b.1 0 ≡ y → IsTry code received trusts (cond y f new)
      is_try true z = t
      is_try false z =
          record {
            costs = sym (sym (ap (λ y. price code received trusts (cond y (change_of code.k f) (set c early b.1))) z) ∙ w.1);
            late_in = hl;
            early_in = he;
            d_lt = hd;
            e_lt = inside;
            apart = free;
          }

pub set_none : (k i : ℕ) → set (none k) i 0 ≡ none k
set_none zero zero = refl
set_none zero (suc i) = refl
set_none (suc k) zero = refl
set_none (suc k) (suc i) = ap (λ l. 0 ∷ l) (set_none k i)

-- the tries of one place alone: its own row serves for the later one, of which nothing is added
pub runs_single : {code : Code} {received trusts J base rows : List ℕ} → Given code received trusts J → base ≡ changed received (word_of code received trusts (none code.k))
    → (i : ℕ) → rows ≡ row code J (index i) → i < code.k → {f r : Found} (left : ℕ) → IsTry code received trusts f
    → r ≡ improved f (best_multiple (arithmetic code) trusts rows (add_scaled (arithmetic code) 0 rows base) f.cost (min left (q code - 1))) i 0 i
    → Runs code received trusts f left (values (q code) (none code.k) i) r
runs_single {code} {received} {trusts} given b i e h {f} {r} left t g =
    let same : set (none code.k) i 0 ≡ none code.k = set_none code.k i in
    let free : get_or (set (none code.k) i 0) i 0 ≡ 0 = ap (λ c. get_or c i 0) same ∙ none_at code.k i h in
    subst (λ c. Runs code received trusts f left (values (q code) c i) r) same
    (runs_block given b i i 0 e e h h (some code given.done received trusts given.small given.size) free left t g)
