-- Every sentence is a law over a row of the table, or a test of the rows that antt computes. That 2 does not generate in field 9: each of its powers comes
-- back to 1 after 51 factors, and 3 does not.
use Prim.Native.Nat.{ℕ, ◌^◌, ◌≤◌}
use mathlib.Core.Path.{◌≡◌, refl, sym, ◌∙◌, ap, subst}
use mathlib.Core.Bool.{false, cond}
use mathlib.Core.List.{[], ◌∷◌, map}
use native.Mathlib.Nat.{mul_comm}
use native.Mathlib.Omega.{arith}
use lib.Dec.{eqb, leb, eqb→eq}
use borrow.Author.Tests.{eq-eqb, le-leb}
use Rattle.basics.specs.Outcome.{accepted, check}
use Rattle.field.specs.Field.{pow}
use Rattle.field.specs.Galois.{IsField, rows, modulus, width, generator, size, product}
use Rattle.field.specs.Tables.{powers}
use Rattle.field.specs.Products.{products_outcome}
use Rattle.field.proofs.Ring.{one_pow, pow_mul}
use Rattle.field.proofs.Computed.{all_below, each_field}
use Rattle.field.proofs.Galois.{is_field_lem, field_true, ring, galois_field, generates}
use Rattle.codewords.proofs.Tests.{not_both}
use Rattle.demands.specs.Fields.{Generates, Fields}

generated : (m : ℕ) → IsField m → Generates m (generator m)
generated m h a l n = (_, (generates h).pow_log a l n)

-- ---- what the rows themselves say

-- the width is the number, and 8 past 8
width_is : {m : ℕ} → IsField m → width m ≡ cond (leb m 8) m 8
unfolding all_below width rows
width_is {m} h = eqb→eq (width m) _ (each_field (λ m. eqb (width m) (cond (leb m 8) m 8)) tt h)

-- the generator is 2, and 3 past 8
generator_is : {m : ℕ} → IsField m → generator m ≡ cond (leb m 8) 2 3
unfolding all_below generator rows
generator_is {m} h = eqb→eq (generator m) _ (each_field (λ m. eqb (generator m) (cond (leb m 8) 2 3)) tt h)

module _ {m : ℕ} (h : IsField m) (low : m ≤ 8) where
  pub width_low : width m ≡ m
  width_low = width_is h ∙ rw (le-leb m 8 low)

  size_low : size m ≡ 2 ^ m
  unfolding size
  size_low = ap (λ w. 2 ^ w) width_low

  generator_low : generator m ≡ 2
  generator_low = generator_is h ∙ rw (le-leb m 8 low)

-- ---- the powers of 2 in field 9

nine : IsField 9
nine = (omega arith, omega arith)

comes_back : pow (product 9) 2 51 ≡ 1
unfolding powers pow
comes_back = refl

does_not : eqb (pow (product 9) 3 51) 1 ≡ false
unfolding powers pow
does_not = refl

-- so every power of 2 comes back to 1 as well, and none is 3
never_3 : (i : ℕ) → pow (product 9) 2 i ≡ 3 → ⊥
never_3 i e =
    not_both
    (eq-eqb _ 1
    (ap (λ a. pow (product 9) a 51) (sym e) ∙ sym (pow_mul (ring nine) 2 i 51) ∙ ap (pow (product 9) 2) (mul_comm i 51)
    ∙ pow_mul (ring nine) 2 51 i ∙ ap (λ a. pow (product 9) a i) comes_back ∙ one_pow (ring nine) i))
    does_not

-- ---- the request's numbers

pub elements_9 : (width 9 ≡ 8) × (size 9 ≡ 256)
unfolding width size rows
elements_9 = (refl, refl)

moduli : map modulus (2 ∷ 3 ∷ 4 ∷ 5 ∷ 6 ∷ 7 ∷ 8 ∷ 9 ∷ []) ≡ 0x7 ∷ 0xB ∷ 0x13 ∷ 0x25 ∷ 0x43 ∷ 0x89 ∷ 0x11D ∷ 0x11B ∷ []
unfolding modulus rows
moduli = refl

products_9 : products_outcome 9 (0x53 ∷ 0x57 ∷ 0x57 ∷ []) (0xCA ∷ 0x83 ∷ 0x13 ∷ []) 3 ≡ accepted (0x01 ∷ 0xC1 ∷ 0xFE ∷ [])
unfolding powers check
products_9 = refl

-- THEOREM
pub fields : Fields
fields =
    record {
      numbers = λ m. (is_field_lem m, field_true);
      laws = λ m h. galois_field h;
      generates = generated;
      moduli = moduli;
      elements = λ m h low. (width_low h low, size_low h low);
      two = λ m h low. subst (Generates m) (generator_low h low) (generated m h);
      elements_9 = elements_9;
      not_two_9 = λ g. let (i, e) = g 3 (omega (arith, elements_9.1)) (omega arith) in never_3 i e;
      three_9 = subst (Generates 9) (generator_is nine) (generated 9 nine);
      products_9 = products_9;
    }
