-- The rows before the first place are in the arrays: 1, Y and 0 have known values, and E is in front where there is room for it.
use Prim.Native.Nat.{ℕ, zero, suc, ◌+◌, ◌-◌, ◌<◌, ◌≤◌}
use mathlib.Core.Path.{◌≡◌, refl, sym, ◌∙◌, ap, ap₂}
use mathlib.Core.Bool.{cond}
use mathlib.Core.List.{List, [], ◌∷◌}
use native.Mathlib.Decide.{dec_lt}
use native.Mathlib.Omega.{arith}
use borrow.Author.Tests.{ne_eqb, lt-ltb, le-ltb}
use borrow.Rule.Slice.PartMut.{same_len_mid}
use lib.Dec.{eqb, ltb}
use lib.ListN.{length, get_or, set, take, replicate, length-append, length-replicate, length-set, get_or-eq_default}
use lib.Seq.{length-take-le, get_or-take, get_or-set_same, get_or-set_other}
use Rattle.basics.specs.Lists.{table}
use Rattle.basics.proofs.Lists.{get_or_table, get_or_zeros, is_table}
use Rattle.field.specs.Sum.{◌⊕◌}
use Rattle.field.specs.Field.{Arithmetic, Field}
use Rattle.field.specs.Galois.{IsField, galois}
use Rattle.field.proofs.Laws.{ring, mul_one}
use Rattle.field.proofs.Galois.{galois_field}
use Rattle.elliptic.specs.declared.Point.{Point}
use Rattle.elliptic.specs.Curve.{point}
use Rattle.elliptic.specs.Functions.{weight}
use Rattle.elliptic.specs.Pair.{horner, evaluate}
use Rattle.elliptic.proofs.Padding.{evaluate_pad}
use Rattle.codewords.proofs.Coefficients.{evaluate_zero}
use Rattle.decoding.specs.Rows.{Row, unit, span, top, defect, first_rows, rows_after}
use Rattle.locator.specs.Arrays.{Heads, Layout, den_in, head, Live, Classes, After, Laid, Below}
use Rattle.locator.specs.First.{first_heads, FirstDefects, FirstDens}
use Rattle.locator.proofs.Parts.{part, put, part_length, put_at}

-- ---- the defects' part of an array

-- the array l with e there is r
pub record Lent (n : ℕ) (l e r : List ℕ) : Type 0 where
  pub long : length r ≡ head + n
  pub some : n ≤ length (part head l)
  pub at : (j : ℕ) → j < n → get_or r (head + j) 0 ≡ get_or e j 0

pub lent : (n : ℕ) (l e : List ℕ) → length l ≡ head + n → length e ≡ length (part head l) → Lent n l e (put head l e)
lent n l e long same =
    record {
      long = same_len_mid head (length l - head) l e same ∙ long;
      some = omega (arith, part_length head l);
      at = λ j b. put_at head l e j (omega arith) (omega (arith, part_length head l));
    }

module _ {n : ℕ} {l e r : List ℕ} (h : Lent n l e r) where
  -- filled by a rule
  pub filled : (f : ℕ → ℕ) → e ≡ table f (length (part head l)) → (j : ℕ) → j < n → get_or r (head + j) 0 ≡ f j
  filled f same j b = h.at j b ∙ ap (λ e. get_or e j 0) same ∙ get_or_table f (length (part head l)) j 0 (omega (arith, h.some))

  -- copied from a list
  pub copied : (from : List ℕ) → take n e ≡ take n from → (j : ℕ) → j < n → get_or r (head + j) 0 ≡ get_or from j 0
  copied from same j b = h.at j b ∙ sym (get_or-take n e j 0 b) ∙ ap (λ e. get_or e j 0) same ∙ get_or-take n from j 0 b

-- ---- E in front

pub dens : (c d : List ℕ) → 3 ≤ length c → 3 ≤ length d → FirstDens c d (set c 0 1) (set (set (set d 0 0) 1 0) 2 1)
dens c d h g =
    let d₁ : List ℕ = set d 0 0 in
    let d₂ : List ℕ = set d₁ 1 0 in
    let s₁ : length d₁ ≡ length d = length-set d 0 0 in
    let s₂ : length d₂ ≡ length d₁ = length-set d₁ 1 0 in
    record {
      c_behind = record { size = length-set c 0 1; kept = λ j l. get_or-set_other c 0 j 1 0 (λ e. omega arith) };
      d_behind = record {
        size = length-set d₂ 2 1 ∙ s₂ ∙ s₁;
        kept = λ j l. get_or-set_other d₂ 2 j 1 0 (λ e. omega arith) ∙ get_or-set_other d₁ 1 j 0 0 (λ e. omega arith) ∙ get_or-set_other d 0 j 0 0 (λ e. omega arith);
      };
      c_first = get_or-set_same c 0 1 0 (omega arith);
      d_first = get_or-set_other d₂ 2 0 1 0 (λ e. omega arith) ∙ get_or-set_other d₁ 1 0 0 0 (λ e. omega arith) ∙ get_or-set_same d 0 0 0 (omega arith);
      d_second = get_or-set_other d₂ 2 1 1 0 (λ e. omega arith) ∙ get_or-set_same d₁ 1 0 0 (omega (arith, s₁));
      d_third = get_or-set_same d₂ 2 1 0 (omega (arith, s₁, s₂));
    }

-- a monomial's coefficients: those in front, and zeros
unit_front : (n s i : ℕ) (row : List ℕ) → s ≤ n → s ≤ length row → i < s → ((j : ℕ) → j < s → get_or row j 0 ≡ cond (eqb j i) 1 0) → unit n i ≡ den_in n s row
unit_front n s i row h g l rule = sym (is_table (λ j. cond (eqb j i) 1 0) (den_in n s row) 0 (λ j b. at j (dec_lt j s)) ∙ ap (table (λ j. cond (eqb j i) 1 0)) size)
  where
    front : length (take s row) ≡ s
    front = length-take-le s row g

    size : length (den_in n s row) ≡ n
    size =
        let rest : List ℕ = replicate (n - s) 0 in
        let z : length rest ≡ n - s = length-replicate (n - s) 0 in
        omega (arith, length-append (take s row) rest, z, front)

    at : (j : ℕ) → Dec (j < s) → get_or (den_in n s row) j 0 ≡ cond (eqb j i) 1 0
    at j (yes b) = get_or_zeros (take s row) (n - s) j ∙ get_or-take s row j 0 b ∙ rule j b
    at j (no b) = get_or_zeros (take s row) (n - s) j ∙ get_or-eq_default (take s row) 0 (omega (arith, front)) ∙ sym (ap (λ b. cond b 1 0) (ne_eqb j i (λ e. omega arith)))

-- the first coefficients of 1, and of Y
one_rule : (row : List ℕ) → get_or row 0 0 ≡ 1 → (j : ℕ) → j < 1 → get_or row j 0 ≡ cond (eqb j 0) 1 0
one_rule row e zero l = e
one_rule row e (suc j) l = absurd (omega arith)

y_rule : (row : List ℕ) → get_or row 0 0 ≡ 0 → get_or row 1 0 ≡ 0 → get_or row 2 0 ≡ 1 → (j : ℕ) → j < 3 → get_or row j 0 ≡ cond (eqb j 2) 1 0
y_rule row e f g zero l = e
y_rule row e f g (suc zero) l = f
y_rule row e f g (suc (suc zero)) l = g
y_rule row e f g (suc (suc (suc j))) l = absurd (omega arith)

-- ---- the defects

module _ {F : Arithmetic} (K : Field F) where
  infixl 70 ◌·◌
  open F use {q, ◌·◌}

  one_steps : (x y : ℕ) → 1 ⊕ x · 0 ⊕ y · 0 ≡ 1
  one_steps x y = simp ring

  evaluate_one : (n : ℕ) (P : Point) → 1 ≤ n → evaluate F (unit n 0) P ≡ 1
  unfolding evaluate horner
  evaluate_one n P h =
      ap (λ f. evaluate F f P) (unit_front n 1 0 (1 ∷ []) h (omega arith) (omega arith) (one_rule (1 ∷ []) refl)) ∙ evaluate_pad K (1 ∷ []) (n - 1) P ∙ one_steps P.x P.y

  y_steps : (x y : ℕ) → 0 ⊕ x · (0 ⊕ x · 0) ⊕ y · (1 ⊕ x · 0) ≡ y · 1
  y_steps x y = simp ring

  evaluate_y : (n : ℕ) (P : Point) → 3 ≤ n → P.y < q → evaluate F (unit n 2) P ≡ P.y
  unfolding evaluate horner
  evaluate_y n P h l =
      ap (λ f. evaluate F f P) (unit_front n 3 2 (0 ∷ 0 ∷ 1 ∷ []) h (omega arith) (omega arith) (y_rule (0 ∷ 0 ∷ 1 ∷ []) refl refl refl)) ∙ evaluate_pad K (0 ∷ 0 ∷ 1 ∷ []) (n - 3) P
      ∙ y_steps P.x P.y ∙ mul_one K P.y l

  num_step : (a v : ℕ) → a ⊕ v · 0 ≡ a
  num_step a v = simp ring

  den_step : (b v : ℕ) → 0 ⊕ v · b ≡ b · v
  den_step b v = simp ring

  -- of (N, 0), and of (0, E)
  num_defect : (P : Point) (v κ t : ℕ) (f : List ℕ) {a : ℕ} → evaluate F f P ≡ a → defect F P v (record { key = κ; num = f; den = replicate t 0 }) ≡ a
  unfolding defect
  num_defect P v κ t f {a} e = ap₂ (λ a b. a ⊕ v · b) e (evaluate_zero K t P) ∙ num_step a v

  den_defect : (P : Point) (v κ n : ℕ) (f : List ℕ) {b : ℕ} → evaluate F f P ≡ b → defect F P v (record { key = κ; num = replicate n 0; den = f }) ≡ b · v
  unfolding defect
  den_defect P v κ n f {b} e = ap₂ (λ a b. a ⊕ v · b) (evaluate_zero K n P) e ∙ den_step b v

-- ---- all four

-- Y has room in E where its key has
two_fits : (k t : ℕ) → k + k + 7 ≤ top k t → 2 ≤ t
unfolding weight
two_fits k zero h = absurd (omega arith)
two_fits k (suc t) h = omega arith

room_most : (t : ℕ) → cond (ltb t 2) 1 3 ≤ suc t
room_most t = elim (dec_lt t 2) [ yes h ↦ rw (lt-ltb t 2 h) (omega arith) | no h ↦ rw (le-ltb t 2 (omega arith)) (omega arith) ]

room_slow : (t : ℕ) → cond (ltb t 2) 1 3 ≤ 3
room_slow t = elim (dec_lt t 2) [ yes h ↦ rw (lt-ltb t 2 h) (omega arith) | no h ↦ rw (le-ltb t 2 (omega arith)) (omega arith) ]

first_classes : (k t : ℕ) → k ≤ 500 → Classes k (first_heads k t)
first_classes k t h =
    record {
      a_class = refl;
      b_class = refl;
      c_class = refl;
      d_class = omega arith;
      small = (omega arith, omega arith, omega arith, omega arith);
    }

dimension_most : {shape : Layout} {xs ys us : List ℕ} → Laid shape xs ys us → shape.k ≤ 500
dimension_most laid = omega (arith, laid.top_is, laid.top_small)

module _ {m : ℕ} (field : IsField m) {shape : Layout} {xs ys us a b c d c' d' : List ℕ} (laid : Laid shape xs ys us) (yl : Below m ys) (ul : Below m us)
    (defects : FirstDefects m ys us a b c d) (front : FirstDens c d c' d') where
  abbrev k : ℕ
  k = shape.k

  abbrev t : ℕ
  t = shape.t

  K : Field (galois m)
  K = galois_field field

  abbrev w0 : Row
  w0 = record { key = 0; num = unit (span k t) 0; den = replicate (suc t) 0 }

  abbrev w1 : Row
  w1 = record { key = 6; num = unit (span k t) 2; den = replicate (suc t) 0 }

  abbrev w2 : Row
  w2 = record { key = k + k + 1; num = replicate (span k t) 0; den = unit (suc t) 0 }

  abbrev w3 : Row
  w3 = record { key = k + k + 7; num = replicate (span k t) 0; den = unit (suc t) 2 }

  as_many : head + length ys ≡ head + length xs
  as_many = omega (arith, laid.as_many)

  within : (j : ℕ) → j < length xs → j < length ys
  within j l = omega (arith, laid.as_many)

  abbrev at : ℕ → Point
  at j = point (get_or xs j 0) (get_or ys j 0)

  all_zero : suc t ≡ suc t - 0
  all_zero = omega arith

  live_a : 0 ≤ top k t → Live m t xs ys us 0 0 a w0
  live_a l =
      record {
        den_is = ap (λ n. replicate n 0) all_zero;
        defects = λ j g b. defects.in_a j (within j b) ∙ sym (num_defect K (at j) (get_or us j 0) 0 (suc t) (unit (span k t) 0) (evaluate_one K (span k t) (at j) (omega (arith, laid.some))));
      }

  live_b : 6 ≤ top k t → Live m t xs ys us 0 0 b w1
  live_b l =
      record {
        den_is = ap (λ n. replicate n 0) all_zero;
        defects = λ j g b. defects.in_b j (within j b) ∙ sym (num_defect K (at j) (get_or us j 0) 6 (suc t) (unit (span k t) 2) (evaluate_y K (span k t) (at j) (omega arith) (yl j (within j b))));
      }

  live_c : k + k + 1 ≤ top k t → Live m t xs ys us 0 1 c' w2
  live_c l =
      record {
        den_is = unit_front (suc t) 1 0 c' (omega arith) (omega (arith, front.c_behind.size, defects.lengths.c_long)) (omega arith) (one_rule c' front.c_first);
        defects = λ j g b.
            front.c_behind.kept (head + j) (omega arith) ∙ defects.in_c j (within j b) ∙ sym (K.one_mul (get_or us j 0) (ul j (omega (arith, laid.symbols))))
            ∙ sym (den_defect K (at j) (get_or us j 0) (k + k + 1) (span k t) (unit (suc t) 0) (evaluate_one K (suc t) (at j) (omega arith)));
      }

  live_d : k + k + 7 ≤ top k t → Live m t xs ys us 0 (cond (ltb t 2) 1 3) d' w3
  live_d l =
      let two : 2 ≤ t = two_fits k t l in
      rw (le-ltb t 2 two)
      record {
        den_is = unit_front (suc t) 3 2 d' (omega arith) (omega (arith, front.d_behind.size, defects.lengths.d_long)) (omega arith) (y_rule d' front.d_first front.d_second front.d_third);
        defects = λ j g b.
            front.d_behind.kept (head + j) (omega arith) ∙ defects.in_d j (within j b)
            ∙ sym (den_defect K (at j) (get_or us j 0) (k + k + 7) (span k t) (unit (suc t) 2) (evaluate_y K (suc t) (at j) (omega arith) (yl j (within j b))));
      }

  pub begun : {hs : Heads} → hs ≡ first_heads k t → After m shape xs ys us 0 hs a b c' d'
  unfolding rows_after first_rows
  begun e =
      rw e
      record {
        first = w0;
        second = w1;
        third = w2;
        fourth = w3;
        rows_are = refl;
        in_a = record { size = defects.lengths.a_long ∙ as_many; key_is = refl; most = omega arith; slow = omega arith; live = live_a };
        in_b = record { size = defects.lengths.b_long ∙ as_many; key_is = refl; most = omega arith; slow = omega arith; live = live_b };
        in_c = record { size = front.c_behind.size ∙ defects.lengths.c_long ∙ as_many; key_is = refl; most = omega arith; slow = omega arith; live = live_c };
        in_d = record { size = front.d_behind.size ∙ defects.lengths.d_long ∙ as_many; key_is = refl; most = room_most t; slow = room_slow t; live = live_d };
        classes = first_classes k t (dimension_most laid);
      }
