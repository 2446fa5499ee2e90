-- The working space behind the part that is lent. The marks of the points that are not chosen. A row by the parts that its factors give and the sums.
use Prim.Native.Nat.{ℕ, zero, suc, ◌+◌, ◌*◌, ◌-◌, ◌<◌, ◌≤◌}
use mathlib.Core.Path.{◌≡◌, refl, sym, ◌∙◌, ap, ap₂}
use mathlib.Core.Bool.{cond}
use mathlib.Core.Logic.{⊎_elim}
use mathlib.Core.List.{List, [], ◌∷◌, ◌++◌}
use native.Mathlib.Decide.{ℕ_discrete}
use native.Mathlib.Numerals.{add-one}
use native.Mathlib.Omega.{arith}
use borrow.Author.Tests.{eq-eqb, ne_eqb}
use lib.Dec.{eqb}
use lib.ListN.{length, get_or, set, take, drop, replicate, take-append-drop}
use lib.Seq.{length-take-le}
use Rattle.basics.specs.Lists.{table}
use Rattle.basics.proofs.Lists.{length_table, get_or_table, table_as}
use Rattle.field.specs.Sum.{◌⊕◌}
use Rattle.field.proofs.Sum.{⊕_assoc, ⊕_zero}
use Rattle.field.specs.Galois.{product, inverse}
use Rattle.values.specs.Values.{one}
use Rattle.arrangement.specs.Arranged.{free_at, rank, Places, Apart}
use Rattle.arrangement.proofs.Arranged.{free_two, rank_as, rank_all}
use Rattle.generator.specs.Rows.{quotient_at, part_at, left_at, entry_at, symbol_at, Marked, Indexed, Filled, Completed}
use Rattle.generator.proofs.Sums.{total_as}
use Rattle.matrix.specs.Given.{frees, row_at, part, Parts}
use Rattle.matrix.proofs.Joined.{returned, lent_part, part_same, part_other, part_clear}

-- two lists that begin with as many elements, and then go on alike
drop_same : (a b r : List ℕ) (k : ℕ) → length a ≡ length b → length a ≤ k → drop k (a ++ r) ≡ drop k (b ++ r)
drop_same [] [] r k e h = refl
drop_same [] (y ∷ b) r k e h = absurd (omega arith)
drop_same (x ∷ a) [] r k e h = absurd (omega arith)
drop_same (x ∷ a) (y ∷ b) r zero e h = absurd (omega arith)
drop_same (x ∷ a) (y ∷ b) r (suc k) e h = drop_same a b r k (omega arith) (omega arith)

pub written_drop : (n room : ℕ) (work : List ℕ) → n ≤ length work → n ≤ room → (z : List ℕ) → length z ≡ length (take n work) → drop room (z ++ drop n work) ≡ drop room work
written_drop n room work fits h z kept =
    drop_same z (take n work) (drop n work) room kept (omega (arith, kept, length-take-le n work fits)) ∙ ap (drop room) (take-append-drop n work)

-- ---- the marks of free points fill the slots behind the first k

pub marked : (k n : ℕ) (J : List ℕ) (l : List ℕ) → length l ≡ n → n ≤ 288 → Places n J → Apart J → length J ≡ k → Marked k (frees J l)
marked k n J l size most places apart full =
    record {
      small = λ t h. rw (at t h) (⊎_elim (λ e. omega arith) (λ e. omega arith) (free_two J t));
      whole = omega (arith, ap (rank (λ i. get_or (frees J l) i 0)) long, rank_as (λ i. get_or (frees J l) i 0) (free_at J) n (λ t h. at t (omega (arith, long))), rank_all n J places apart, full, long);
      most = omega (arith, long);
    }
  where
    long : length (frees J l) ≡ n
    long = length_table (free_at J) (length l) ∙ size

    at : (t : ℕ) → t < length (frees J l) → get_or (frees J l) t 0 ≡ free_at J t
    at t h = get_or_table (free_at J) (length l) t 0 (omega (arith, long, size))

-- the marks are lent as many as there are points
pub indexed_as : (k : ℕ) (J px marks a b : List ℕ) → length marks ≡ length px → Indexed k (length (frees J marks)) (frees J marks) a b → Indexed k (length px) (frees J px) a b
indexed_as k J px marks a b e x = rw e at (rw (length_table (free_at J) (length marks)) at x)

-- ---- a row, by what is written first, and then

-- where the rows' factors are the same, so are the rows
module _ (m k : ℕ) (J px l u a b a' b' : List ℕ) (firsts : (j : ℕ) → j < k → get_or a' j 0 ≡ get_or a j 0) (seconds : (j : ℕ) → j < k → get_or b' j 0 ≡ get_or b j 0) where
  quotient_kept : (α v w j : ℕ) → j < k → quotient_at m α v w px a' b' j ≡ quotient_at m α v w px a b j
  quotient_kept α v w j h = ap₂ (λ x y. product m (product m x v ⊕ product m y w) (inverse m (α ⊕ get_or px j 0))) (firsts j h) (seconds j h)

  entry_kept : (j s : ℕ) → j < k → entry_at m px l u a' b' k j s ≡ entry_at m px l u a b k j s
  entry_kept j s h =
      let kept = quotient_kept (get_or px s 0) (get_or l s 0) (get_or u s 0) in
      ap₂ (λ x y. cond (eqb (get_or px s 0) (get_or px j 0)) (1 ⊕ x) y) (total_as _ _ k kept) (kept j h)

  pub row_kept : (j : ℕ) → j < k → row_at m k J px l u a' b' j ≡ row_at m k J px l u a b j
  row_kept j h = ap (λ r. set r (get_or J j 0 - 1) 1) (table_as _ _ (length px) (λ t g. ap (λ y. cond (eqb (get_or (frees J px) t 0) 0) 0 y) (entry_kept j _ h)))

  pub rows_kept : table (row_at m k J px l u a' b') k ≡ table (row_at m k J px l u a b) k
  rows_kept = table_as _ _ k row_kept

-- the entry is the part where the coordinates differ, and else what the sums leave
pub row_complete : (m k : ℕ) (J px l u a b : List ℕ) {sums out row : List ℕ} {i : ℕ} → Indexed k (length px) (frees J px) a b → Parts m k px l u a b sums out k → i < k
    → Completed i k (get_or J i 0) px a b sums (part (length px) i out) row → row ≡ row_at m k J px l u a b i
row_complete m k J px l u a b {i = i} x p h c =
    c.symbols (frees J px) x (entry_at m px l u a b k i) (part_at m px l u a b i) (λ s low more e. p.left s low more ∙ rw (eq-eqb (get_or px s 0) (get_or px i 0) e))
    (λ s low more d. rw (ne_eqb (get_or px s 0) (get_or px i 0) d)) (p.rows (frees J px) x i h)

-- ---- the loop that writes the parts

module _ (m k : ℕ) (px l u a b : List ℕ) where
  pub parts_none : {sums out : List ℕ} → sums ≡ table one (length px) → out ≡ replicate (k * length px) 0 → Parts m k px l u a b sums out 0
  parts_none e f =
      record { rows = λ free x j h. absurd (omega arith); left = λ s low more. ap (λ y. get_or y s 0) e ∙ get_or_table one (length px) s 0 more ∙ sym (⊕_zero 1); rest = λ j h g. ap (part (length px) j) f ∙ part_clear k (length px) j g }

  -- z is row i, which comes back, and the sums with it
  pub parts_turn : {sums sums' out z : List ℕ} {i : ℕ} (fits : i * length px + length px ≤ length out) (size : length z ≡ length px) → Parts m k px l u a b sums out i
      → Filled m i k px l u a b sums sums' z → Parts m k px l u a b sums' (returned (length px) i out z) (i + 1)
  parts_turn {sums} {sums'} {out} {z} {i} fits size p f =
      record {
        rows = λ free x j h. elim (ℕ_discrete j i) [
          | yes e ↦ ap (λ y. part (length px) y (returned (length px) i out z)) e ∙ part_same (length px) i out fits z size ∙ f.symbols free x
              ∙ ap (λ y. table (symbol_at k free (part_at m px l u a b y)) (length px)) (sym e)
          | no d ↦ part_other (length px) i out fits z size j d ∙ p.rows free x j (omega arith)
        ];
        rest = λ j h g. part_other (length px) i out fits z size j (λ d. omega arith) ∙ p.rest j (omega arith) g;
        left = λ s low more. f.added.done s low more ∙ ap (λ y. y ⊕ part_at m px l u a b i s) (p.left s low more) ∙ ⊕_assoc 1 _ _ ∙ ap (λ y. left_at m px l u a b y s) (sym (add-one i));
      }

-- ---- the loop that completes them

abbrev pub Completing : ℕ → List ℕ → List ℕ → List ℕ → List ℕ → List ℕ → List ℕ → List ℕ → ℕ → Type 0
Completing k J px a b sums out out' i = ((j : ℕ) → j < i → Completed j k (get_or J j 0) px a b sums (part (length px) j out) (part (length px) j out'))
    × ((j : ℕ) → i ≤ j → j < k → part (length px) j out' ≡ part (length px) j out)

module _ (k : ℕ) (J px a b sums out : List ℕ) where
  pub completing_none : Completing k J px a b sums out out 0
  completing_none = (λ j h. absurd (omega arith), λ j h g. refl)

  -- z comes back for the part of row i
  pub completing_turn : (out' z : List ℕ) {i p : ℕ} (fits : i * length px + length px ≤ length out') (size : length z ≡ length px) → i < k → p ≡ get_or J i 0
      → Completed i k p px a b sums (take (i * length px + length px - i * length px) (drop (i * length px) out')) z
      → Completing k J px a b sums out out' i → Completing k J px a b sums out (returned (length px) i out' z) (i + 1)
  completing_turn out' z {i} fits size more e c w = (
    λ j h. elim (ℕ_discrete j i) [
      | yes d ↦ rw (d, part_same (length px) i out' fits z size) (rw (lent_part (length px) i out' fits, w.1 i (omega arith) more, e) at c)
      | no d ↦ rw (part_other (length px) i out' fits z size j d) (w.0 j (omega arith))
    ],
    λ j h g. part_other (length px) i out' fits z size j (λ d. omega arith) ∙ w.1 j (omega arith) g,
  )
