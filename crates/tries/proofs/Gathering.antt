-- The pass over the places, one place more: what is done, and what the rest adds, is all.
use Prim.Native.Nat.{ℕ, ◌+◌, ◌*◌, ◌/◌, ◌%◌, ◌<◌, ◌≤◌}
use mathlib.Core.Path.{◌≡◌, sym, ◌∙◌, ap}
use mathlib.Core.Bool.{Bool, true, false, cond, not}
use mathlib.Core.List.{List, [], ◌∷◌}
use native.Mathlib.Omega.{arith}
use native.Mathlib.Decide.{ℕ_discrete}
use lib.Bits.{bit_or, bit_xor, or_add_and, and_le_r}
use lib.Dec.{eqb}
use lib.ListN.{length, get_or, set, drop, replicate, length-set, length-replicate, get_or-replicate, drop_of_length-le}
use lib.Seq.{get_or-set_same, get_or-set_other}
use borrow.Author.Tests.{eq-eqb, ne_eqb}
use Rattle.basics.proofs.Loops.{next}
use Rattle.field.specs.Sum.{◌⊕◌}
use Rattle.field.specs.Field.{Arithmetic}
use Rattle.field.specs.Galois.{IsField, galois, product, inverse}
use Rattle.field.specs.Tables.{product_by_log}
use Rattle.field.proofs.Galois.{size_ge, ring, remainder_small, log_none}
use Rattle.field.proofs.Lookup.{none_inverse}
use Rattle.elliptic.specs.Pair.{add_scaled}
use Rattle.elliptic.proofs.Function.{length_add}
use Rattle.patterns.specs.Slots.{always, saves, fixed, saved}
use Rattle.patterns.proofs.Linear.{get_or_add}
use Rattle.tries.specs.Gathered.{multiple_of, Saved, GatheredWith}

-- ---- a trust where a test holds

pub bit_le : (t : ℕ) (b : Bool) → cond b t 0 ≤ t
bit_le t true = omega arith
bit_le t false = omega arith

-- a number that is not 0 has a bit, and its bits stay
either_bits : (r x : ℕ) → (r ≡ 0 → ⊥) → bit_or r x ≡ 0 → ⊥
either_bits r x n e = n (omega (arith, or_add_and r x, and_le_r r x))

module _ (F : Arithmetic) (t r x : ℕ) where
  pub always_bit : cond (not (eqb (bit_or r x) 0)) t 0 ≡ always F t r x
  always_bit = by (ℕ_discrete r 0) (ℕ_discrete x 0)
    where
      by : Dec (r ≡ 0) → Dec (x ≡ 0) → cond (not (eqb (bit_or r x) 0)) t 0 ≡ always F t r x
      by (yes z) (yes y) = rw (z, y) (omega arith)
      by (yes z) (no n) = rw (z, ne_eqb x 0 n, ne_eqb 0 x (λ e. n (sym e))) (omega arith)
      by (no n) d = rw (ne_eqb r 0 n, ne_eqb (bit_or r x) 0 (either_bits r x n)) (omega arith)

  pub always_le : always F t r x ≤ t
  always_le = omega (arith, always_bit, bit_le t (not (eqb (bit_or r x) 0)))

  saves_none : (e : ℕ) → r ≡ 0 → saves F e t r x ≡ 0
  saves_none e z = rw z

  saves_by : (e : ℕ) → (r ≡ 0 → ⊥) → saves F e t r x ≡ cond (eqb (F.◌·◌ x (F.inv r)) e) t 0
  saves_by e n = rw (ne_eqb r 0 n)

  saves_hit : (e : ℕ) → (r ≡ 0 → ⊥) → F.◌·◌ x (F.inv r) ≡ e → saves F e t r x ≡ t
  saves_hit e n g = saves_by e n ∙ ap (λ b. cond b t 0) (eq-eqb (F.◌·◌ x (F.inv r)) e g)

  saves_miss : (e : ℕ) → (r ≡ 0 → ⊥) → (F.◌·◌ x (F.inv r) ≡ e → ⊥) → saves F e t r x ≡ 0
  saves_miss e n g = saves_by e n ∙ ap (λ b. cond b t 0) (ne_eqb (F.◌·◌ x (F.inv r)) e g)

-- ---- one place

-- a slot that gets v more
put_here : (l : List ℕ) (j v : ℕ) → j < length l → get_or (set l j (get_or l j 0 + v)) j 0 ≡ get_or l j 0 + v
put_here l j v h = get_or-set_same l j (get_or l j 0 + v) 0 h

put_else : (l : List ℕ) (j v i : ℕ) → (i ≡ j → ⊥) → get_or (set l j (get_or l j 0 + v)) i 0 ≡ get_or l i 0
put_else l j v i n = get_or-set_other l j i (get_or l j 0 + v) 0 n

module _ {m : ℕ} (h : IsField m) where
  -- nothing is over 0
  over_zero : (x : ℕ) → product m x (inverse m 0) ≡ 0
  over_zero x =
      let low : 0 < 256 = omega arith in
      ap (product m x) (sym (none_inverse h 0 low (log_none h 0 low (remainder_small h 0 (omega (arith, size_ge h)))))) ∙ (ring h).mul_zero x

  module _ (t r x half : ℕ) {e : ℕ} (is : e ≡ product m x (inverse m r)) where
    -- the slot of the multiple that puts the place right
    saves_here : (multiple_of half (e % 128) ≡ 0 → ⊥) → cond (eqb (e / 128) half) t 0 ≡ saves (galois m) (multiple_of half (e % 128)) t r x
    saves_here k = by (ℕ_discrete r 0) (ℕ_discrete (e / 128) half)
      where
        by : Dec (r ≡ 0) → Dec (e / 128 ≡ half) → cond (eqb (e / 128) half) t 0 ≡ saves (galois m) (multiple_of half (e % 128)) t r x
        by (yes z) d =
            let o : e ≡ 0 = is ∙ ap (λ y. product m x (inverse m y)) z ∙ over_zero x in
            rw (ne_eqb (e / 128) half (λ y. k (omega (arith, o, y)))) (omega (arith, saves_none (galois m) t r x (multiple_of half (e % 128)) z))
        by (no n) (yes y) =
            let g : e ≡ multiple_of half (e % 128) = omega (arith, y) in
            rw (eq-eqb (e / 128) half y) (omega (arith, saves_hit (galois m) t r x (multiple_of half (e % 128)) n (sym is ∙ g)))
        by (no n) (no y) =
            rw (ne_eqb (e / 128) half y) (omega (arith, saves_miss (galois m) t r x (multiple_of half (e % 128)) n (λ w. y (omega (arith, is, w)))))

    saves_else : (j : ℕ) → j < 128 → (j ≡ e % 128 → ⊥) → saves (galois m) (multiple_of half j) t r x ≡ 0
    saves_else j l k = by (ℕ_discrete r 0)
      where
        by : Dec (r ≡ 0) → saves (galois m) (multiple_of half j) t r x ≡ 0
        by (yes z) = saves_none (galois m) t r x (multiple_of half j) z
        by (no n) = saves_miss (galois m) t r x (multiple_of half j) n (λ w. k (omega (arith, is, w, l)))

    module _ (l : List ℕ) (s : length l ≡ 128) where
      abbrev v : ℕ
      v = cond (eqb (e / 128) half) t 0

      abbrev new : List ℕ
      new = set l (e % 128) (get_or l (e % 128) 0 + v)

      more : (i : ℕ) → i < 128 → (multiple_of half i ≡ 0 → ⊥) → get_or new i 0 ≡ get_or l i 0 + saves (galois m) (multiple_of half i) t r x
      more i k n = by (ℕ_discrete i (e % 128))
        where
          by : Dec (i ≡ e % 128) → get_or new i 0 ≡ get_or l i 0 + saves (galois m) (multiple_of half i) t r x
          by (yes z) =
              ap (λ j. get_or new j 0) z ∙ put_here l (e % 128) v (omega (arith, s, k, z))
              ∙ ap (λ w. get_or l (e % 128) 0 + w) (saves_here (λ y. n (ap (multiple_of half) z ∙ y)))
              ∙ ap (λ j. get_or l j 0 + saves (galois m) (multiple_of half j) t r x) (sym z)
          by (no z) = put_else l (e % 128) v i z ∙ omega (arith, saves_else i k z)

      most : (i : ℕ) → i < 128 → get_or new i 0 ≤ get_or l i 0 + t
      most i k = by (ℕ_discrete i (e % 128))
        where
          by : Dec (i ≡ e % 128) → get_or new i 0 ≤ get_or l i 0 + t
          by (yes z) = rw z (omega (arith, put_here l (e % 128) v (omega (arith, s, k, z)), bit_le t (eqb (e / 128) half)))
          by (no z) = omega (arith, put_else l (e % 128) v i z)

      pub saved_at : {j v' : ℕ} → j ≡ e % 128 → v' ≡ v → Saved m t r x half l (set l j (get_or l j 0 + v'))
      saved_at at is-v = rw (at, is-v) (record { size = length-set l (e % 128) (get_or l (e % 128) 0 + v); more = more; most = most })

-- ---- the loop

-- the places before i are done: they and the others are all
pub record Going (m half : ℕ) (ts rs xs : List ℕ) (i cost : ℕ) (slots : List ℕ) : Type 0 where
  pub costs : cost + fixed (galois m) (drop i ts) (drop i rs) (drop i xs) ≡ fixed (galois m) ts rs xs
  pub all : (j : ℕ) → j < 128 → (multiple_of half j ≡ 0 → ⊥)
      → get_or slots j 0 + saved (galois m) (multiple_of half j) (drop i ts) (drop i rs) (drop i xs) ≡ saved (galois m) (multiple_of half j) ts rs xs

-- the same for the factor with the logarithm, and how large the numbers are
pub record Passing (m half log : ℕ) (ts rs late ds : List ℕ) (i cost : ℕ) (slots : List ℕ) : Type 0 where
  pub low : cost ≤ 255 * i
  pub size : length slots ≡ 128
  pub room : (j : ℕ) → j < 128 → get_or slots j 0 ≤ 255 * i
  pub going : (d : ℕ) → ((b : ℕ) → product_by_log m log b ≡ product m d b) → Going m half ts rs (add_scaled (galois m) d late ds) i cost slots

module _ (m half log : ℕ) (ts rs late ds : List ℕ) where
  pub pass_start : {slots : List ℕ} → slots ≡ replicate 128 0 → Passing m half log ts rs late ds 0 0 slots
  pass_start {slots} z =
      record {
        low = omega arith;
        size = ap length z ∙ length-replicate {A = ℕ} 128 0;
        room = λ j h. omega (arith, none j h);
        going = λ d f. record { costs = omega arith; all = λ j h n. omega (arith, none j h) };
      }
    where
      none : (j : ℕ) → j < 128 → get_or slots j 0 ≡ 0
      none j h = ap (λ l. get_or l j 0) z ∙ get_or-replicate {A = ℕ} 128 j 0 0 h

  module _ {i cost : ℕ} {slots : List ℕ} (g : Passing m half log ts rs late ds i cost slots) where
    pub pass_end : length ts ≤ i → GatheredWith m half log ts rs late ds cost slots
    pass_end h d f =
        let e : drop i ts ≡ [] = drop_of_length-le ts h in
        let G = g.going d f in
        record {
          costs = omega (arith, rw e at G.costs);
          all = λ j k n. omega (arith, rw e at (G.all j k n));
        }

    module _ (R : length rs ≡ length ts) (L : length late ≡ length ts) (D : length ds ≡ length ts) (h : i < length ts) (b : get_or ts i 0 < 256) where
      -- one place more, with the difference x there
      going_turn : {xs : List ℕ} {x : ℕ} → length xs ≡ length ts → x ≡ get_or xs i 0 → Going m half ts rs xs i cost slots → {c : ℕ} {new : List ℕ}
          → c ≡ always (galois m) (get_or ts i 0) (get_or rs i 0) x → Saved m (get_or ts i 0) (get_or rs i 0) x half slots new → Going m half ts rs xs (i + 1) (cost + c) new
      going_turn {xs} {x} X at G {c} {new} e w =
          record {
            costs = omega (arith, e, rw (nt, nr, nx) at G.costs);
            all = λ j k n. omega (arith, w.more j k n, rw (nt, nr, nx) at (G.all j k n));
          }
        where
          nt : drop i ts ≡ get_or ts i 0 ∷ drop (i + 1) ts
          nt = next ts 0 i h

          nr : drop i rs ≡ get_or rs i 0 ∷ drop (i + 1) rs
          nr = next rs 0 i (omega arith)

          nx : drop i xs ≡ x ∷ drop (i + 1) xs
          nx = next xs 0 i (omega arith) ∙ ap (λ y. y ∷ drop (i + 1) xs) (sym at)

      pub pass_turn : {p c : ℕ} {new : List ℕ} → p ≡ product_by_log m log (get_or late i 0)
          → c ≡ cond (not (eqb (bit_or (get_or rs i 0) (bit_xor (get_or ds i 0) p)) 0)) (get_or ts i 0) 0
          → Saved m (get_or ts i 0) (get_or rs i 0) (bit_xor (get_or ds i 0) p) half slots new → Passing m half log ts rs late ds (i + 1) (cost + c) new
      unfolding ◌⊕◌
      pass_turn {p} {c} {new} q is_c w =
          let e = is_c ∙ always_bit (galois m) (get_or ts i 0) (get_or rs i 0) (bit_xor (get_or ds i 0) p) in
          record {
            low = omega (arith, e, g.low, always_le (galois m) (get_or ts i 0) (get_or rs i 0) (bit_xor (get_or ds i 0) p));
            size = w.size ∙ g.size;
            room = λ j k. omega (arith, w.most j k, g.room j k);
            going = λ d f. going_turn
                (length_add (galois m) d late ds (omega arith) ∙ D)
                (ap (bit_xor (get_or ds i 0)) (q ∙ f (get_or late i 0)) ∙ sym (get_or_add (galois m) d late ds i (omega arith) (omega arith)))
                (g.going d f) e w;
          }
