-- Every field number's row is a field: the laws by theory, over a modulus, a width and a generator, and what the rows themselves must show,
-- for all of them, by tests that antt computes.
use mathlib.Core.Path.{◌≡◌, refl, sym, ap, ◌∙◌}
use mathlib.Core.Bool.{Bool, true, false, cond, ◌&&◌, ◌||◌}
use Prim.Native.Nat.{ℕ, ◌+◌, ◌-◌, ◌/◌, ◌^◌, ◌≤◌, ◌<◌}
use native.Mathlib.Nat.{zero-add}
use native.Mathlib.Omega.{arith}
use lib.Dec.{T, eqb, leb, ltb, eqb→eq, leb→le, ltb→lt}
use borrow.Author.Tests.{ne_eqb, leb-true, le-leb}
use lib.ListN.{get_or}
use lib.Pow.{pow_mono}
use Rattle.basics.proofs.Lists.{both, both_true}
use Rattle.field.specs.Field.{Field, pow}
use Rattle.field.specs.Galois.{is_field, IsField, rows, modulus, width, generator, size, product, remainder, inverse, galois}
use Rattle.field.specs.Tables.{none, position, powers, logarithm}
use Rattle.field.proofs.Computed.{all_below, below, apart, each_field, iterate_at}
use Rattle.field.proofs.Ring.{Ring}
use Rattle.field.proofs.Remainders.{reduce_small, reduce_lt, mul_reduce, ring as reduced}
use Rattle.field.proofs.Generator.{Generator, generated}

-- the test of a field number and the statement
pub is_field_lem : (m : ℕ) → is_field m ≡ true → IsField m
is_field_lem m e = let t = both (leb 2 m) _ e in (leb-true 2 m t.0, leb-true m _ t.1)

pub field_true : {m : ℕ} → IsField m → is_field m ≡ true
field_true {m} (least, most) = both_true (leb 2 m) _ (le-leb 2 m least) (le-leb m _ most)

-- a field number is a byte
pub no_field : (m : ℕ) → 256 ≤ m → is_field m ≡ false
no_field m h = by (is_field m) refl
  where
    by : (b : Bool) → is_field m ≡ b → b ≡ false
    by false e = refl
    by true e = absurd (omega (arith, h, (is_field_lem m e).1))

-- ---- the tests

-- the width is 2 to 8, and the modulus has that degree. A sum of two logarithms is below 255, or the period is 255
row_test : ℕ → Bool
row_test m =
    leb 2 (width m) && (leb (width m) 8 && (eqb (modulus m / size m) 1
    && (eqb (size m) (size m / 2 + size m / 2) && (ltb (size m + size m) 258 || eqb (size m) 256))))

row_passes : {m : ℕ} → IsField m → T (row_test m)
unfolding row_test all_below modulus width size rows
row_passes = each_field row_test tt

-- the generator comes back to 1 after as many steps as there are elements but 0
period_test : ℕ → Bool
period_test m = eqb (get_or (powers m (size m)) (size m - 1) 0) 1

period_passes : {m : ℕ} → IsField m → T (period_test m)
unfolding all_below period_test size powers
period_passes = each_field period_test tt

-- a byte whose remainder is 0 has no logarithm, and any other's is an exponent at which the generator is that remainder
log_at : ℕ → ℕ → ℕ → ℕ → Bool
log_at q r l x = cond (eqb r 0) (eqb l none) (ltb l (q - 1) && eqb x r)

log_test : ℕ → Bool
log_test m =
    let p = powers m (size m - 1) in
    all_below (λ a. let r = remainder m a in let l = position 0 r p in log_at (size m) r l (get_or p l 0)) 256

log_passes : {m : ℕ} → IsField m → T (log_test m)
unfolding all_below log_test log_at logarithm
log_passes = each_field log_test tt

-- ---- the fields

-- what the row of a field says
pub record RowFacts (m : ℕ) : Type 0 where
  pub wide : 2 ≤ width m
  pub narrow : width m ≤ 8
  pub degree : modulus m / size m ≡ 1
  pub even : size m ≡ size m / 2 + size m / 2
  pub wraps : T (ltb (size m + size m) 258 || eqb (size m) 256)

pub row_facts : {m : ℕ} → IsField m → RowFacts m
unfolding row_test
row_facts {m} h =
    let t = apart (leb 2 (width m)) _ (row_passes h) in
    let u = apart (leb (width m) 8) _ t.1 in
    let v = apart (eqb (modulus m / size m) 1) _ u.1 in
    let w = apart (eqb (size m) (size m / 2 + size m / 2)) _ v.1 in
    record {
      wide = leb→le 2 (width m) t.0;
      narrow = leb→le (width m) 8 u.0;
      degree = eqb→eq (modulus m / size m) 1 v.0;
      even = eqb→eq (size m) (size m / 2 + size m / 2) w.0;
      wraps = w.1;
    }

pub power_at : (m n i : ℕ) → i < n → get_or (powers m n) i 0 ≡ pow (product m) (generator m) i
unfolding powers pow
power_at m n i l =
    iterate_at (product m (generator m)) (pow (product m) (generator m)) (λ i. refl) 0 n i l ∙ ap (pow (product m) (generator m)) (zero-add i)

module _ {m : ℕ} (h : IsField m) where
  pub size_le : size m ≤ 256
  unfolding size
  size_le = pow_mono (row_facts h).narrow

  pub size_ge : 4 ≤ size m
  unfolding size
  size_ge = pow_mono (row_facts h).wide

  wide : 0 < width m
  wide = omega (arith, (row_facts h).wide)

  degree : modulus m / 2 ^ width m ≡ 1
  unfolding size
  degree = (row_facts h).degree

  pub ring : Ring (size m) (product m)
  unfolding size product
  ring = reduced (modulus m) (width m) wide degree

  pub remainder_lt : (a : ℕ) → remainder m a < size m
  unfolding remainder size
  remainder_lt = reduce_lt (modulus m) (width m) wide degree

  pub remainder_small : (a : ℕ) → a < size m → remainder m a ≡ a
  unfolding remainder size
  remainder_small = reduce_small (modulus m) (width m)

  pub product_remainder : (a b : ℕ) → product m (remainder m a) (remainder m b) ≡ product m a b
  unfolding remainder product
  product_remainder = mul_reduce (modulus m) (width m) wide degree

  log_at_lem : (a : ℕ) → a < 256 → T (log_at (size m) (remainder m a) (logarithm m a) (get_or (powers m (size m - 1)) (logarithm m a) 0))
  unfolding log_test logarithm
  log_at_lem a l = below (λ a. log_at (size m) (remainder m a) (logarithm m a) (get_or (powers m (size m - 1)) (logarithm m a) 0)) 256 (log_passes h) a l

  -- a byte whose remainder is 0 has no logarithm
  pub log_none : (a : ℕ) → a < 256 → remainder m a ≡ 0 → logarithm m a ≡ none
  unfolding log_at
  log_none a l z = eqb→eq (logarithm m a) none (rw z at (log_at_lem a l))

  -- any other's is below the period, and is the exponent of the remainder
  logged : (a : ℕ) → a < 256 → (remainder m a ≡ 0 → ⊥) → (logarithm m a < size m - 1) × (get_or (powers m (size m - 1)) (logarithm m a) 0 ≡ remainder m a)
  unfolding log_at
  logged a l n =
      let t = apart (ltb (logarithm m a) (size m - 1)) _ (rw (ne_eqb (remainder m a) 0 n) at (log_at_lem a l)) in
      (ltb→lt (logarithm m a) (size m - 1) t.0, eqb→eq _ _ t.1)

  pub log_lt : (a : ℕ) → a < 256 → (remainder m a ≡ 0 → ⊥) → logarithm m a < size m - 1
  log_lt a l n = (logged a l n).0

  pub pow_log : (a : ℕ) → a < 256 → (remainder m a ≡ 0 → ⊥) → pow (product m) (generator m) (logarithm m a) ≡ remainder m a
  pow_log a l n = sym (power_at m (size m - 1) (logarithm m a) (log_lt a l n)) ∙ (logged a l n).1

  pub generates : Generator (size m) (product m) (generator m) (logarithm m)
  unfolding period_test
  generates = record {
    period = sym (power_at m (size m) (size m - 1) (omega (arith, size_ge))) ∙ eqb→eq (get_or (powers m (size m)) (size m - 1) 0) 1 (period_passes h);
    log_lt = λ a ha na. log_lt a (omega (arith, size_le)) (λ z. na (sym (remainder_small a ha) ∙ z));
    pow_log = λ a ha na. pow_log a (omega (arith, size_le)) (λ z. na (sym (remainder_small a ha) ∙ z)) ∙ remainder_small a ha;
  }

  -- THEOREM: the arithmetic of a field number is a field's
  pub galois_field : Field (galois m)
  unfolding inverse
  galois_field = generated ring (row_facts h).even generates
