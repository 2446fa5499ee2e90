-- A row is written slot after slot, at each free point by its index. Different slots have different points, since the free points before that of a
-- slot are as many as the slots before it.
use Prim.Native.Nat.{ℕ, ◌+◌, ◌*◌, ◌-◌, ◌/◌, ◌%◌, ◌<◌, ◌≤◌}
use mathlib.Core.Path.{◌≡◌, refl, sym, ◌∙◌, ap, ap₂}
use mathlib.Core.List.{List}
use native.Mathlib.Decide.{ℕ_discrete}
use native.Mathlib.Numerals.{add-one}
use native.Mathlib.Omega.{arith}
use borrow.Author.Tests.{eq-eqb, ne_eqb}
use lib.Bits.{bit_xor}
use lib.ListN.{length, get_or, set, replicate, length-set, length-replicate, get_or-replicate}
use lib.Seq.{get_or-set_same, get_or-set_other}
use Rattle.basics.specs.Lists.{table}
use Rattle.basics.proofs.Lists.{length_table, get_or_table, is_table}
use Rattle.field.specs.Sum.{◌⊕◌}
use Rattle.field.specs.Galois.{product, inverse}
use Rattle.field.specs.Tables.{product_by_log}
use Rattle.values.specs.Values.{Sweeping}
use Rattle.arrangement.specs.Arranged.{rank}
use Rattle.arrangement.proofs.Arranged.{rank_next}
use Rattle.generator.specs.Rows.{Factor, part_at, symbol_at, index_at, Marked, Indexed, Behind, Filled, Completed}

-- the slot of the free point with index t
abbrev slot_of : ℕ → List ℕ → ℕ → ℕ
slot_of count free t = count + rank (λ i. get_or free i 0) t

-- ---- the loop that lists the indices

-- those of the free points before t, and s is the slot of the next
pub record IndexedTo (count : ℕ) (free a₀ b₀ a b : List ℕ) (t s : ℕ) : Type 0 where
  pub first_size : length a ≡ length free
  pub second_size : length b ≡ length free
  pub upto : t ≤ length free
  pub next : s ≡ slot_of count free t
  pub inside : (r : ℕ) → count ≤ r → r < s → index_at a b r < t
  pub is_free : (r : ℕ) → count ≤ r → r < s → get_or free (index_at a b r) 0 ≡ 1
  pub ranked : (r : ℕ) → count ≤ r → r < s → slot_of count free (index_at a b r) ≡ r
  pub firsts : (j : ℕ) → j < count → get_or a j 0 ≡ get_or a₀ j 0
  pub seconds : (j : ℕ) → j < count → get_or b j 0 ≡ get_or b₀ j 0

pub indexed_none : (count : ℕ) (free a b : List ℕ) → length a ≡ length free → length b ≡ length free → IndexedTo count free a b a b 0 count
indexed_none count free a b e f =
    record {
      first_size = e;
      second_size = f;
      upto = omega arith;
      next = omega arith;
      inside = λ r h l. absurd (omega arith);
      is_free = λ r h l. absurd (omega arith);
      ranked = λ r h l. absurd (omega arith);
      firsts = λ j l. refl;
      seconds = λ j l. refl;
    }

module _ {count : ℕ} {free a₀ b₀ a b : List ℕ} {t s : ℕ} (w : Marked count free) (x : IndexedTo count free a₀ b₀ a b t s) where
  -- while there is a slot, not all points have been seen
  pub mark_left : s < length a → t < length free
  mark_left h =
      elim (ℕ_discrete t (length free)) [
        | yes e ↦ omega (arith, ap (slot_of count free) e, w.whole, x.next, x.first_size)
        | no n ↦ omega (arith, x.upto)
      ]

  pub indexed_turn : s < length a → {low high f : ℕ} → low ≡ t % 256 → high ≡ t / 256 → f ≡ get_or free t 0
      → IndexedTo count free a₀ b₀ (set a s low) (set b s high) (t + 1) (s + f)
  indexed_turn h {low} {high} {f} p q e =
      record {
        first_size = length-set a s low ∙ x.first_size;
        second_size = length-set b s high ∙ x.second_size;
        upto = omega (arith, mark_left h);
        next = rw (add-one t) (omega (arith, x.next, e));
        inside = λ r k l. elim (ℕ_discrete r s) [ yes d ↦ omega (arith, at r d) | no d ↦ omega (arith, other r d, x.inside r k (earlier r l d)) ];
        is_free = λ r k l. elim (ℕ_discrete r s) [
          | yes d ↦ ap (λ i. get_or free i 0) (at r d) ∙ omega (arith, w.small t (mark_left h), e)
          | no d ↦ ap (λ i. get_or free i 0) (other r d) ∙ x.is_free r k (earlier r l d)
        ];
        ranked = λ r k l. elim (ℕ_discrete r s) [
          | yes d ↦ ap (slot_of count free) (at r d) ∙ omega (arith, x.next)
          | no d ↦ ap (slot_of count free) (other r d) ∙ x.ranked r k (earlier r l d)
        ];
        firsts = λ j l. get_or-set_other a s j low 0 (λ d. omega (arith, x.next)) ∙ x.firsts j l;
        seconds = λ j l. get_or-set_other b s j high 0 (λ d. omega (arith, x.next)) ∙ x.seconds j l;
      }
    where
      here : index_at (set a s low) (set b s high) s ≡ t
      here =
          ap₂ (λ y z. y + 256 * z) (get_or-set_same a s low 0 h) (get_or-set_same b s high 0 (omega (arith, x.first_size, x.second_size)))
          ∙ omega (arith, p, q)

      at : (r : ℕ) → r ≡ s → index_at (set a s low) (set b s high) r ≡ t
      at r d = ap (index_at (set a s low) (set b s high)) d ∙ here

      other : (r : ℕ) → (r ≡ s → ⊥) → index_at (set a s low) (set b s high) r ≡ index_at a b r
      other r d = ap₂ (λ y z. y + 256 * z) (get_or-set_other a s r low 0 d) (get_or-set_other b s r high 0 d)

      earlier : (r : ℕ) → r < s + f → (r ≡ s → ⊥) → r < s
      earlier r l d = omega (arith, w.small t (mark_left h), e)

  pub indexed_all : length a ≤ s → Behind count free a₀ b₀ a b
  indexed_all h =
      record {
        indexed =
            record {
              inside = λ r k l. omega (arith, x.inside r k (omega (arith, x.first_size)), x.upto);
              is_free = λ r k l. x.is_free r k (omega (arith, x.first_size));
              ranked = λ r k l. x.ranked r k (omega (arith, x.first_size));
              whole = omega (arith, w.whole);
            };
        firsts = x.firsts;
        seconds = x.seconds;
      }

-- ---- the loops that write a row

-- a row of n symbols has g at the free points in the slots before s, h at those from s on, and 0 at the others
pub record Symbols (count n : ℕ) (free : List ℕ) (g h : ℕ → ℕ) (s : ℕ) (row : List ℕ) : Type 0 where
  pub size : length row ≡ n
  pub none : (t : ℕ) → t < n → get_or free t 0 ≡ 0 → get_or row t 0 ≡ 0
  pub before : (t : ℕ) → t < n → (get_or free t 0 ≡ 0 → ⊥) → slot_of count free t < s → get_or row t 0 ≡ g (slot_of count free t)
  pub after : (t : ℕ) → t < n → (get_or free t 0 ≡ 0 → ⊥) → s ≤ slot_of count free t → get_or row t 0 ≡ h (slot_of count free t)

module _ (count n : ℕ) (free : List ℕ) (g : ℕ → ℕ) {row : List ℕ} where
  symbols_zero : row ≡ replicate n 0 → Symbols count n free g (λ _. 0) count row
  symbols_zero e =
      record {
        size = ap length e ∙ length-replicate n 0;
        none = λ t l z. zero_at t l;
        before = λ t l z k. absurd (omega arith);
        after = λ t l z k. zero_at t l;
      }
    where
      zero_at : (t : ℕ) → t < n → get_or row t 0 ≡ 0
      zero_at t l = ap (λ r. get_or r t 0) e ∙ get_or-replicate n t 0 0 l

  symbols_from : (h : ℕ → ℕ) → row ≡ table (symbol_at count free h) n → Symbols count n free g h count row
  symbols_from h e =
      record {
        size = ap length e ∙ length_table (symbol_at count free h) n;
        none = λ t l z. at t l ∙ rw (eq-eqb (get_or free t 0) 0 z);
        before = λ t l z k. absurd (omega arith);
        after = λ t l z k. at t l ∙ rw (ne_eqb (get_or free t 0) 0 z);
      }
    where
      at : (t : ℕ) → t < n → get_or row t 0 ≡ symbol_at count free h t
      at t l = ap (λ r. get_or r t 0) e ∙ get_or_table (symbol_at count free h) n t 0 l

module _ {count n : ℕ} {free a b : List ℕ} (x : Indexed count n free a b) {g h : ℕ → ℕ} {s : ℕ} {row : List ℕ} (w : Symbols count n free g h s row) where
  symbols_all : n ≤ s → row ≡ table (symbol_at count free g) n
  symbols_all full = is_table (symbol_at count free g) row 0 (λ t l. by t (rw w.size at l) (ℕ_discrete (get_or free t 0) 0)) ∙ ap (table (symbol_at count free g)) w.size
    where
      by : (t : ℕ) → t < n → Dec (get_or free t 0 ≡ 0) → get_or row t 0 ≡ symbol_at count free g t
      by t l (yes z) = w.none t l z ∙ rw (eq-eqb (get_or free t 0) 0 z)
      by t l (no z) = w.before t l z (omega (arith, rank_next (λ i. get_or free i 0) t n l, x.whole, z)) ∙ rw (ne_eqb (get_or free t 0) 0 z)

  symbols_same : h s ≡ g s → Symbols count n free g h (s + 1) row
  symbols_same e =
      record {
        size = w.size;
        none = w.none;
        before = λ t l z k. elim (ℕ_discrete (slot_of count free t) s) [
          | yes d ↦ w.after t l z (omega arith) ∙ ap h d ∙ e ∙ ap g (sym d)
          | no d ↦ w.before t l z (omega arith)
        ];
        after = λ t l z k. w.after t l z (omega arith);
      }

  module _ (low : count ≤ s) (more : s < n) where
    -- no other free point has this slot
    alone : (t : ℕ) → t < n → (get_or free t 0 ≡ 0 → ⊥) → slot_of count free t ≡ s → (t ≡ index_at a b s → ⊥) → ⊥
    alone t l z e n =
        elim (ℕ_discrete (t - index_at a b s) 0) [
          | yes d ↦ omega (arith, rank_next (λ i. get_or free i 0) t (index_at a b s) (omega arith), z, e, x.ranked s low more)
          | no d ↦ omega (arith, rank_next (λ i. get_or free i 0) (index_at a b s) t (omega arith), x.is_free s low more, e, x.ranked s low more)
        ]

    symbols_turn : {v : ℕ} → v ≡ g s → Symbols count n free g h (s + 1) (set row (index_at a b s) v)
    symbols_turn {v} e =
        record {
          size = length-set row (index_at a b s) v ∙ w.size;
          none = λ t l z. other t (λ d. omega (arith, z, ap (λ i. get_or free i 0) d, x.is_free s low more)) ∙ w.none t l z;
          before = λ t l z k. elim (ℕ_discrete t (index_at a b s)) [
            | yes d ↦ ap (get_d_of (set row (index_at a b s) v)) d ∙ get_or-set_same row (index_at a b s) v 0 (rw w.size (x.inside s low more)) ∙ e
                ∙ ap g (sym (ap (slot_of count free) d ∙ x.ranked s low more))
            | no d ↦ other t d ∙ elim (ℕ_discrete (slot_of count free t) s) [
              | yes f ↦ absurd (alone t l z f d)
              | no f ↦ w.before t l z (omega arith)
            ]
          ];
          after = λ t l z k. other t (λ d. omega (arith, ap (slot_of count free) d, x.ranked s low more)) ∙ w.after t l z (omega arith);
        }
      where
        get_d_of : List ℕ → ℕ → ℕ
        get_d_of r t = get_or r t 0

        other : (t : ℕ) → (t ≡ index_at a b s → ⊥) → get_or (set row (index_at a b s) v) t 0 ≡ get_or row t 0
        other t d = get_or-set_other row (index_at a b s) t v 0 d

-- ---- the row's parts

abbrev pub Filling : ℕ → ℕ → ℕ → List ℕ → List ℕ → List ℕ → List ℕ → List ℕ → ℕ → List ℕ → Type 0
Filling m j count xs l u a b s row = (free : List ℕ) → Indexed count (length xs) free a b → Symbols count (length xs) free (part_at m xs l u a b j) (λ _. 0) s row

module _ (m j count : ℕ) (xs l u a b : List ℕ) where
  pub filling_none : {row : List ℕ} → row ≡ replicate (length xs) 0 → Filling m j count xs l u a b count row
  filling_none e free x = symbols_zero count (length xs) free (part_at m xs l u a b j) e

  pub filling_turn : {s v i : ℕ} {row : List ℕ} → count ≤ s → s < length xs → v ≡ part_at m xs l u a b j s → i ≡ index_at a b s
      → Filling m j count xs l u a b s row → Filling m j count xs l u a b (s + 1) (set row i v)
  filling_turn low more e p w free x = rw p (symbols_turn x (w free x) low more e)

  pub filling_all : {s : ℕ} {row sums sums' : List ℕ} → length xs ≤ s → s ≤ length xs → Sweeping (λ s. get_or sums s 0 ⊕ part_at m xs l u a b j s) count s sums sums'
      → Filling m j count xs l u a b s row → Filled m j count xs l u a b sums sums' row
  filling_all {s} full most d w =
      let end : s ≡ length xs = omega arith in
      record { added = rw end at d; symbols = λ free x. symbols_all x (w free x) full }

  -- what a turn computes
  pub part_by : (s : ℕ) {la lb e : ℕ} → Factor m (get_or a j 0) la → Factor m (get_or b j 0) lb
      → e ≡ product m (product_by_log m la (get_or l s 0) ⊕ product_by_log m lb (get_or u s 0)) (inverse m (bit_xor (get_or xs s 0) (get_or xs j 0))) → e ≡ part_at m xs l u a b j s
  unfolding ◌⊕◌
  part_by s f g e =
      e ∙ ap₂ (λ y z. product m (y ⊕ z) (inverse m (get_or xs s 0 ⊕ get_or xs j 0))) (f.times (get_or l s 0)) (g.times (get_or u s 0))

-- a sum gains the row's part
pub sum_by : {rule : ℕ → ℕ} {d s e p : ℕ} {sums new : List ℕ} → Sweeping rule d s sums new → e ≡ p → bit_xor (get_or new s 0) e ≡ get_or sums s 0 ⊕ p
unfolding ◌⊕◌
sum_by {s = s} w q = ap₂ bit_xor (w.rest s (omega arith)) q

-- ---- what the other rows leave of 1

abbrev pub Completing : ℕ → ℕ → List ℕ → List ℕ → List ℕ → List ℕ → List ℕ → ℕ → List ℕ → Type 0
Completing j count xs a b sums row₀ s row = (free : List ℕ) → Indexed count (length xs) free a b → (g h : ℕ → ℕ)
    → ((s : ℕ) → count ≤ s → s < length xs → get_or xs s 0 ≡ get_or xs j 0 → get_or sums s 0 ≡ g s)
    → ((s : ℕ) → count ≤ s → s < length xs → (get_or xs s 0 ≡ get_or xs j 0 → ⊥) → h s ≡ g s)
    → row₀ ≡ table (symbol_at count free h) (length xs) → Symbols count (length xs) free g h s row

module _ (j count : ℕ) (xs a b sums row₀ : List ℕ) where
  pub completing_none : Completing j count xs a b sums row₀ count row₀
  completing_none free x g h over away e = symbols_from count (length xs) free g h e

  module _ {s : ℕ} {row : List ℕ} (low : count ≤ s) (more : s < length xs) (w : Completing j count xs a b sums row₀ s row) where
    pub completing_over : {i : ℕ} → get_or xs s 0 ≡ get_or xs j 0 → i ≡ index_at a b s → Completing j count xs a b sums row₀ (s + 1) (set row i (get_or sums s 0))
    completing_over d p free x g h over away e = rw p (symbols_turn x (w free x g h over away e) low more (over s low more d))

    pub completing_away : (get_or xs s 0 ≡ get_or xs j 0 → ⊥) → Completing j count xs a b sums row₀ (s + 1) row
    completing_away d free x g h over away e = symbols_same x (w free x g h over away e) (away s low more d)

  pub completing_all : {s p i : ℕ} {row : List ℕ} → length xs ≤ s → length row ≡ length row₀ → i ≡ p - 1 → Completing j count xs a b sums row₀ s row
      → Completed j count p xs a b sums row₀ (set row i 1)
  completing_all {i = i} {row} full size q w =
      record {
        size = length-set row i 1 ∙ size;
        symbols = λ free x g h over away e. ap₂ (λ r y. set r y 1) (symbols_all x (w free x g h over away e) full) q;
      }
