-- The cheapest multiple: what the slots say is what the multiples cost, and one pass for all of them or one for each half find the same.
use Prim.Native.Nat.{ℕ, suc, ◌+◌, ◌-◌, ◌<◌, ◌≤◌}
use mathlib.Core.Path.{◌≡◌, refl, sym, ◌∙◌, ap, ap₂}
use mathlib.Core.List.{List, [], ◌∷◌}
use native.Mathlib.Omega.{arith}
use lib.ListN.{length, get_or}
use Rattle.basics.specs.Lists.{table}
use Rattle.basics.proofs.Lists.{table_as, table_add}
use Rattle.field.specs.Field.{Arithmetic}
use Rattle.field.specs.Galois.{IsField, galois, size}
use Rattle.field.proofs.Galois.{size_le, size_ge, galois_field}
use Rattle.elliptic.specs.Pair.{add_scaled}
use Rattle.elliptic.proofs.Function.{length_add}
use Rattle.elliptic.proofs.Points.{All, all_of}
use Rattle.patterns.specs.Cheapest.{weigh, cheaper, cheapest}
use Rattle.patterns.proofs.Linear.{get_or_add}
use Rattle.patterns.proofs.Runs.{cheapest_append, keeps, takes}
use Rattle.patterns.proofs.Slots.{weight_saved}
use Rattle.field.specs.Tables.{logarithm, product_by_log}
use Rattle.field.proofs.Lookup.{by_log}
use Rattle.tries.specs.Gathered.{multiple_of, Gathered, GatheredWith, Within}
use Rattle.tries.specs.Multiples.{Priced, price_of, slot_tries, half_tries, multiple_tries, Rows, InHalf, best_multiple}

-- ---- the loop over the slots

-- one try more
tried_more : (best : Priced) (f : ℕ → Priced) (k : ℕ) {p : Priced} → p ≡ cheapest price_of best (table f k)
    → cheaper price_of p (f k) ≡ cheapest price_of best (table f (suc k))
unfolding cheapest
tried_more best f k e = ap (λ q. cheaper price_of q (f k)) e ∙ sym (cheapest_append price_of best (table f k) (f k ∷ []))

module _ (fx : ℕ) (slots : List ℕ) (half from : ℕ) (best : Priced) where
  -- p is the cheapest of the tries in slots before j
  abbrev pub Tried : ℕ → Priced → Type 0
  Tried j p = p ≡ cheapest price_of best (slot_tries fx slots half from (j - from))

  pub tried_start : Tried from best
  unfolding cheapest
  tried_start = let e : from - from ≡ 0 = omega arith in rw e refl

  module _ {j : ℕ} (h : from ≤ j) {p : Priced} (t : Tried j p) where
    turn : cheaper price_of p (fx - get_or slots j 0, multiple_of half j) ≡ cheapest price_of best (slot_tries fx slots half from (j + 1 - from))
    turn =
        let k : from + (j - from) ≡ j = omega arith in
        let n : j + 1 - from ≡ suc (j - from) = omega arith in
        ap (λ i. cheaper price_of p (fx - get_or slots i 0, multiple_of half i)) (sym k)
        ∙ tried_more best (λ i. (fx - get_or slots (from + i) 0, multiple_of half (from + i))) (j - from) t
        ∙ ap (λ i. cheapest price_of best (slot_tries fx slots half from i)) (sym n)

    pub tried_takes : fx - get_or slots j 0 < p.0 → {c e : ℕ} → c ≡ fx - get_or slots j 0 → e ≡ multiple_of half j → Tried (j + 1) (c, e)
    tried_takes l a b = ap₂ (λ (c e : ℕ). (c, e)) a b ∙ sym (takes price_of p (fx - get_or slots j 0, multiple_of half j) l) ∙ turn

    pub tried_keeps : p.0 ≤ fx - get_or slots j 0 → {c e : ℕ} → c ≡ p.0 → e ≡ p.1 → Tried (j + 1) (c, e)
    tried_keeps l a b = ap₂ (λ (c e : ℕ). (c, e)) a b ∙ sym (keeps price_of p (fx - get_or slots j 0, multiple_of half j) l) ∙ turn

-- ---- what the slots say is what the multiples cost

-- what was gathered with the logarithm of a factor
pub by_factor : {m : ℕ} → IsField m → (late ds : List ℕ) {half log d cost : ℕ} {ts rs slots : List ℕ} → GatheredWith m half log ts rs late ds cost slots → log ≡ logarithm m d
    → d < 256 → Gathered m half ts rs (add_scaled (galois m) d late ds) cost slots
by_factor {m} h late ds {d = d} g e small = g d (λ b. ap (λ k. product_by_log m k b) e ∙ by_log h d b small)

module _ {m : ℕ} (h : IsField m) {ts ds late rs : List ℕ} (R : Rows m ts ds late rs) (d : ℕ) where
  abbrev xs : List ℕ
  xs = add_scaled (galois m) d late ds

  xs_length : length xs ≡ length ts
  xs_length = length_add (galois m) d late ds (omega (arith, R.lates, R.differences)) ∙ R.differences

  xs_below : All (λ x. x < size m) xs
  xs_below =
      let K = galois_field h in
      let e : length late ≡ length ds = R.lates ∙ sym R.differences in
      all_of 0 xs (λ i k.
      let l : i < length ds = omega (arith, k, xs_length, R.differences) in
      rw (get_or_add (galois m) d late ds i e l) (K.add_lt _ _ (R.difference_below i l) (K.mul_lt d (get_or late i 0))))

  rs_below : All (λ r. r < size m) rs
  rs_below = all_of 0 rs R.row_below

  module _ {half cost : ℕ} {slots : List ℕ} (G : Gathered m half ts rs xs cost slots) where
    slot_cost : (j : ℕ) → j < 128 → 0 < multiple_of half j → multiple_of half j < size m
        → weigh ts (add_scaled (galois m) (multiple_of half j) rs xs) + get_or slots j 0 ≡ cost
    slot_cost j k s l =
        omega (
          arith,
          weight_saved (galois_field h) (multiple_of half j) l ts rs_below xs_below (R.rows ∙ sym xs_length),
          G.all j k (λ z. omega (arith, s, z)),
          G.costs,
        )

    module _ {from to : ℕ} (I : InHalf m half from to) where
      in_half : (j : ℕ) → from ≤ j → j < to → weigh ts (add_scaled (galois m) (multiple_of half j) rs xs) + get_or slots j 0 ≡ cost
      in_half j a b = slot_cost j (omega (arith, b, I.most)) (omega (arith, a, I.some)) (omega (arith, b, I.below))

      pub within : Within cost slots from to
      within j a b = omega (arith, in_half j a b)

      told : slot_tries cost slots half from (to - from) ≡ half_tries (galois m) ts rs xs half from (to - from)
      told = table_as _ _ (to - from) (λ i k.
          ap (λ c. (c, multiple_of half (from + i))) (omega (arith, in_half (from + i) (omega arith) (omega (arith, k)))))

      pub slots_tell : (b : Priced) {p : Priced} → p ≡ cheapest price_of b (slot_tries cost slots half from (to - from))
          → p ≡ cheapest price_of b (half_tries (galois m) ts rs xs half from (to - from))
      slots_tell b e = e ∙ ap (cheapest price_of b) told

-- ---- the halves

module _ (F : Arithmetic) (ts rs xs : List ℕ) where
  abbrev multiple : ℕ → Priced
  multiple e = (weigh ts (add_scaled F e rs xs), e)

  low_half : (n : ℕ) → half_tries F ts rs xs 0 1 n ≡ multiple_tries F ts rs xs n
  low_half n = table_as _ _ n (λ i k. let e : multiple_of 0 (1 + i) ≡ suc i = omega arith in ap multiple e)

  high_half : (k n : ℕ) → k ≡ 127 → half_tries F ts rs xs 1 0 n ≡ table (λ i. multiple (suc (k + i))) n
  high_half k n z = table_as _ _ n (λ i l. let e : multiple_of 1 (0 + i) ≡ suc (k + i) = omega (arith, z) in ap multiple e)

  both : (b : Priced) (k n : ℕ) → k ≡ 127
      → cheapest price_of (cheapest price_of b (half_tries F ts rs xs 0 1 k)) (half_tries F ts rs xs 1 0 n) ≡ cheapest price_of b (multiple_tries F ts rs xs (k + n))
  both b k n z =
      ap₂ (λ l r. cheapest price_of (cheapest price_of b l) r) (low_half k) (high_half k n z)
      ∙ sym (cheapest_append price_of b (multiple_tries F ts rs xs k) (table (λ i. multiple (suc (k + i))) n))
      ∙ ap (cheapest price_of b) (sym (table_add (λ i. multiple (suc i)) k n))

  module _ (cost : ℕ) where
    -- all multiples have a slot of one half
    pub tried_one : (n count : ℕ) {p : Priced} → n ≡ count → p ≡ cheapest price_of (cost, 0) (half_tries F ts rs xs 0 1 (n + 1 - 1))
        → p ≡ best_multiple F ts rs xs cost count
    tried_one n count z e =
        let k : n + 1 - 1 ≡ count = omega arith in
        e ∙ ap (cheapest price_of (cost, 0)) (low_half (n + 1 - 1)) ∙ ap (best_multiple F ts rs xs cost) k

    -- those from 128 on have the slots of the other
    pub tried_both : (k n count : ℕ) {p r : Priced} → k ≡ 127 → 128 ≤ n → n ≡ count → p ≡ cheapest price_of (cost, 0) (half_tries F ts rs xs 0 1 k)
        → r ≡ cheapest price_of p (half_tries F ts rs xs 1 0 (n - 127 - 0)) → r ≡ best_multiple F ts rs xs cost count
    tried_both k n count z l w e d =
        let t : k + (n - 127 - 0) ≡ count = omega arith in
        d ∙ ap (λ p. cheapest price_of p (half_tries F ts rs xs 1 0 (n - 127 - 0))) e ∙ both (cost, 0) k (n - 127 - 0) z ∙ ap (best_multiple F ts rs xs cost) t

-- ---- how many multiples there are, and the slots that they have

module _ {m count : ℕ} (h : IsField m) (l : count ≤ size m - 1) where
  pub in_one : count < 128 → InHalf m 0 1 (count + 1)
  in_one k = record { ordered = omega arith; most = omega arith; is_half = omega arith; some = omega arith; below = omega (arith, size_ge h) }

  module _ (k : 128 ≤ count) where
    pub in_low : InHalf m 0 1 128
    in_low = record { ordered = omega arith; most = omega arith; is_half = omega arith; some = omega arith; below = omega (arith, l, k) }

    pub in_high : InHalf m 1 0 (count - 127)
    in_high = record { ordered = omega arith; most = omega (arith, l, size_le h); is_half = omega arith; some = omega arith; below = omega (arith, l, k) }
