-- Rows of n, each in its own part of one buffer: a row that is lent and comes back changes its own part alone, and all parts joined are the buffer.
use Prim.Native.Nat.{ℕ, zero, suc, ◌+◌, ◌*◌, ◌-◌, ◌<◌, ◌≤◌}
use mathlib.Core.Path.{◌≡◌, refl, sym, ◌∙◌, ap, ap₂}
use mathlib.Core.List.{List, [], ◌∷◌, ◌++◌, append_assoc, append-nil}
use native.Mathlib.Decide.{ℕ_discrete}
use native.Mathlib.Nat.{mul-le-mul, mul-le-mul_right, suc-mul, zero-mul}
use native.Mathlib.Numerals.{add-one}
use native.Mathlib.Omega.{arith}
use borrow.Rule.Slice.PartMut.{put_mid, same_len_mid, take_put, drop_put}
use lib.ListN.{length, take, drop, replicate, length-drop, take-append-drop, length-replicate, get_or-replicate}
use lib.Seq.{take_all, take_at, drop_at, take-add, drop-drop, take-append-le, drop-append-le, length-take-le, get_or-take, get_or-drop, ext_get_or}
use Rattle.basics.specs.Lists.{table}
use Rattle.basics.proofs.Lists.{part_length}
use Rattle.coder.specs.Outcomes.{joined}
use Rattle.matrix.specs.Given.{part}

-- ---- k rows of n, with k and n as the code test bounds them

-- a row has its place among them
pub row_fits : (k n i : ℕ) → i < k → i * n + n ≤ k * n
row_fits k n i h = rw (sym (ap (λ j. j * n) (add-one i) ∙ suc-mul i n)) (mul-le-mul_right {m = i + 1} {n = k} n (omega arith))

pub rows_small : {k n : ℕ} → k ≤ 288 → n ≤ 288 → k * n ≤ 82944
rows_small h g = mul-le-mul h g

-- a buffer for k rows has a part for row i, and is small
pub row_room : {k n i : ℕ} (out : List ℕ) → length out ≡ k * n → i < k → k ≤ n → n ≤ 288 → (i * n + n ≤ length out) × (length out ≤ 82944)
row_room {k} {n} {i} out size h few most = (omega (arith, row_fits k n i h), omega (arith, rows_small {k = k} {n = n} (omega arith) most))

-- ---- the part of row i is lent, and z comes back

-- a part that ends before c
part_early : (n a c : ℕ) (l : List ℕ) → a + n ≤ c → c ≤ length l → take n (drop a l) ≡ take n (drop a (take c l))
part_early n a c l h g =
    let front : length (take c l) ≡ c = length-take-le c l g in
    let rest : length (drop a (take c l)) ≡ c - a = length-drop a (take c l) ∙ ap (λ y. y - a) front in
    ap (λ y. take n (drop a y)) (sym (take-append-drop c l)) ∙ ap (take n) (drop-append-le a (take c l) (drop c l) (omega (arith, front)))
    ∙ take-append-le n (drop a (take c l)) (drop c l) (omega (arith, rest))

-- a part of a clear buffer
pub part_clear : (k n i : ℕ) → i < k → part n i (replicate (k * n) 0) ≡ replicate n 0
part_clear k n i h =
    let long : length (part n i (replicate (k * n) 0)) ≡ n = part_length (replicate (k * n) 0) (i * n) n (omega (arith, row_fits k n i h, length-replicate {A = ℕ} (k * n) 0)) in
    ext_get_or 0 (part n i (replicate (k * n) 0)) (replicate n 0) (long ∙ sym (length-replicate {A = ℕ} n 0))
    (λ t l. get_or-take n (drop (i * n) (replicate (k * n) 0)) t 0 (omega (arith, long)) ∙ get_or-drop (i * n) (replicate (k * n) 0) t 0
    ∙ get_or-replicate (k * n) (i * n + t) 0 0 (omega (arith, long, row_fits k n i h)) ∙ sym (get_or-replicate n t 0 0 (omega (arith, long))))

-- the buffer when z is back
abbrev pub returned : ℕ → ℕ → List ℕ → List ℕ → List ℕ
returned n i out z = put_mid (i * n) (i * n + n - i * n) out z

module _ (n i : ℕ) (out : List ℕ) (fits : i * n + n ≤ length out) where
  pub lent_part : take (i * n + n - i * n) (drop (i * n) out) ≡ part n i out
  lent_part = let size : i * n + n - i * n ≡ n = omega arith in ap (λ y. take y (drop (i * n) out)) size

  pub lent_size : length (take (i * n + n - i * n) (drop (i * n) out)) ≡ n
  lent_size = ap length lent_part ∙ part_length out (i * n) n fits

  module _ (z : List ℕ) (size : length z ≡ n) where
    pub returned_size : length (returned n i out z) ≡ length out
    returned_size = same_len_mid (i * n) (i * n + n - i * n) out z (size ∙ sym lent_size)

    pub part_same : part n i (returned n i out z) ≡ z
    part_same = ap (take n) (drop_at (take (i * n) out) _ (i * n) (length-take-le (i * n) out (omega arith))) ∙ take_at z _ n size

    pub part_other : (j : ℕ) → (j ≡ i → ⊥) → part n j (returned n i out z) ≡ part n j out
    part_other j d =
        elim (ℕ_discrete (i - j) 0) [
          | yes e ↦
              ap (take n)
              (sym (later (returned n i out z) (omega arith)) ∙ ap (drop (j * n - (i * n + n))) (drop_put (i * n) (i * n + n) out z (omega arith) fits (omega (arith, size))) ∙ later out (omega arith))
          | no e ↦
              part_early n (j * n) (i * n) (returned n i out z) (row_fits i n j (omega arith)) (omega (arith, returned_size))
              ∙ ap (λ y. take n (drop (j * n) y)) (take_put (i * n) (i * n + n - i * n) out z (omega arith))
              ∙ sym (part_early n (j * n) (i * n) out (row_fits i n j (omega arith)) (omega arith))
        ]
      where
        later : (l : List ℕ) → i < j → drop (j * n - (i * n + n)) (drop (i * n + n) l) ≡ drop (j * n) l
        later l h =
            let whole : i * n + n + (j * n - (i * n + n)) ≡ j * n = omega (arith, row_fits j n i h) in
            drop-drop (j * n - (i * n + n)) (i * n + n) l ∙ ap (λ y. drop y l) whole

-- ---- the rows f 0, f 1, .. joined

joined_append : (a b : List (List ℕ)) → joined (a ++ b) ≡ joined a ++ joined b
joined_append [] b = refl
joined_append (r ∷ a) b = ap (λ l. r ++ l) (joined_append a b) ∙ sym (append_assoc r (joined a) (joined b))

-- all parts fill the buffer
module _ (f : ℕ → List ℕ) (k n : ℕ) (out : List ℕ) (is : (i : ℕ) → i < k → part n i out ≡ f i) where
  parts_front : (i : ℕ) → i ≤ k → take (i * n) out ≡ joined (table f i)
  parts_front zero h = rw zero-mul
  parts_front (suc i) h =
      ap (λ y. take y out) (suc-mul i n) ∙ take-add (i * n) n out ∙ ap₂ (λ a b. a ++ b) (parts_front i (omega arith)) (is i h)
      ∙ sym (joined_append (table f i) (f i ∷ []) ∙ ap (λ r. joined (table f i) ++ r) (append-nil (f i)))

  pub parts_all : length out ≡ k * n → out ≡ joined (table f k)
  parts_all size = sym (take_all (k * n) out (omega arith)) ∙ parts_front k (omega arith)
