-- What a turn of each loop over the rows computes is by the rules.
use Prim.Native.Nat.{ℕ, ◌+◌, ◌<◌, ◌≤◌}
use mathlib.Core.Path.{◌≡◌, sym, ◌∙◌, ap, ap₂}
use mathlib.Core.List.{List}
use native.Mathlib.Decide.{ℕ_discrete}
use native.Mathlib.Numerals.{add-one}
use native.Mathlib.Omega.{arith}
use lib.Bits.{bit_xor}
use lib.ListN.{length, get_or, set, length-set}
use lib.Seq.{get_or-set_same, get_or-set_other}
use Rattle.field.specs.Sum.{◌⊕◌}
use Rattle.field.specs.Galois.{product, inverse}
use Rattle.values.specs.Values.{Sweeping}
use Rattle.generator.specs.Rows.{total, multiple_at, Over, RowLists, RowsRaised, Slots}

-- a sum gains a term
pub one_more : (g : ℕ → ℕ) (j : ℕ) {s e : ℕ} → s ≡ total g j → e ≡ g j → bit_xor s e ≡ total g (j + 1)
unfolding ◌⊕◌
one_more g j p q = ap₂ bit_xor p q ∙ sym (ap (total g) (add-one j))

pub multiple_by : (m α t : ℕ) (xs b : List ℕ) {a₀ a : List ℕ} {rule : ℕ → ℕ} {j : ℕ} → Sweeping rule 0 j a₀ a → {p e : ℕ} → p ≡ product m t (get_or b j 0)
    → e ≡ product m (bit_xor (get_or a j 0) p) (inverse m (bit_xor α (get_or xs j 0))) → e ≡ multiple_at m α t xs a₀ b j
unfolding ◌⊕◌
multiple_by m α t xs b {j = j} s p e = rw (← s.rest j (omega arith), ← p) e

-- ---- the search for a row over a coordinate, among the first j

pub record Sought (xs : List ℕ) (count α o j : ℕ) : Type 0 where
  pub most : o ≤ count
  pub hit : o < count → get_or xs o 0 ≡ α
  pub seen : (t : ℕ) → t < j → get_or xs t 0 ≡ α → o < count

pub sought_none : (xs : List ℕ) (count α : ℕ) → Sought xs count α count 0
sought_none xs count α = record { most = omega arith; hit = λ h. absurd (omega arith); seen = λ t h. absurd (omega arith) }

pub sought_here : {xs : List ℕ} {count α o j : ℕ} → j < count → Sought xs count α o j → get_or xs j 0 ≡ α → Sought xs count α j (j + 1)
sought_here h s e = record { most = omega arith; hit = λ _. e; seen = λ _ _ _. h }

pub sought_on : {xs : List ℕ} {count α o j : ℕ} → Sought xs count α o j → (get_or xs j 0 ≡ α → ⊥) → Sought xs count α o (j + 1)
sought_on {xs} {count} {α} {o} {j} s n = record { most = s.most; hit = s.hit; seen = λ t h e. by t h e (ℕ_discrete t j) }
  where
    by : (t : ℕ) → t < j + 1 → get_or xs t 0 ≡ α → Dec (t ≡ j) → o < count
    by t h e (yes q) = absurd (n (rw q at e))
    by t h e (no q) = s.seen t (omega arith) e

pub sought_all : {xs : List ℕ} {count α o : ℕ} → Sought xs count α o count → Over xs count α o
sought_all s = record { most = s.most; hit = s.hit; seen = s.seen }

-- ---- the rows behind i hold their multiples, one of them gets what the others leave, and the new one is stored
pub rows_raised : (m i rc t : ℕ) (xs a b : List ℕ) {a₁ : List ℕ} {o own s : ℕ} → RowLists xs a b (i + 1) → own ≡ inverse m rc → Sweeping (multiple_at m (get_or xs i 0) t xs a b) 0 i a a₁
    → s ≡ total (multiple_at m (get_or xs i 0) t xs a b) i → Over xs i (get_or xs i 0) o → RowsRaised m i rc t xs a b (set (set a₁ o (bit_xor own s)) i own) (set b i 0)
unfolding ◌⊕◌
rows_raised m i rc t xs a b {a₁} {o} {own} {s} g e w p f =
    let room : o < length a₁ = omega (arith, w.size, g.firsts, f.most) in
    let stored : List ℕ = set a₁ o (bit_xor own s) in
    let size : length stored ≡ length a = length-set a₁ o _ ∙ w.size in
    record {
      first_size = length-set stored i own ∙ size;
      second_size = length-set b i 0;
      away = λ j l n. get_or-set_other stored i j own 0 (λ y. omega arith)
          ∙ get_or-set_other a₁ o j _ 0 (λ y. n (ap (λ z. get_or xs z 0) y ∙ f.hit (omega arith))) ∙ w.done j (omega arith) l;
      over = λ j l n alone.
          let same : o ≡ j = alone o (f.seen j l n) (f.hit (f.seen j l n)) in
          get_or-set_other stored i j own 0 (λ y. omega arith)
          ∙ ap (λ z. get_or stored z 0) (sym same) ∙ get_or-set_same a₁ o _ 0 room ∙ ap₂ bit_xor e p;
      second = λ j l. get_or-set_other b i j 0 0 (λ y. omega arith);
      new_first = get_or-set_same stored i own 0 (omega (arith, size, g.firsts)) ∙ e;
      new_second = get_or-set_same b i 0 0 (omega (arith, g.seconds));
    }

-- the factors change places
pub rows_turned : {xs a b : List ℕ} {i : ℕ} → RowLists xs a b i → RowLists xs b a i
rows_turned g = record { points = g.points; firsts = g.seconds; seconds = g.firsts }

-- the lists of fewer rows, after some of them have changed
pub rows_sized : {xs a b a' b' : List ℕ} {i count : ℕ} → i ≤ count → length a' ≡ length a → length b' ≡ length b → RowLists xs a b count → RowLists xs a' b' i
rows_sized l e f g = record { points = omega (arith, g.points); firsts = omega (arith, g.firsts); seconds = omega (arith, g.seconds) }

-- the slots of other sums and another row
pub slots_of : {count : ℕ} {xs a b sums row sums' row' : List ℕ} → length sums' ≡ length xs → length row' ≡ length xs → Slots count xs a b sums row
    → Slots count xs a b sums' row'
slots_of d e g =
    record { points = g.points; first_size = g.first_size; second_size = g.second_size; sum_size = d; row_size = e; inside = g.inside; most = g.most }
