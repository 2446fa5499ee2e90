-- The fields by field number: document 01's sentences on 2 to 8, and request S-4's on 9, "the other field of 256".
use Rattle.std.specs.Prelude.{ℕ, ◌^◌, ◌≤◌, ◌<◌, ◌≡◌, true, ◌↔◌, [], ◌∷◌, map}
use Rattle.basics.specs.Outcome.{accepted}
use Rattle.field.specs.Field.{Field, pow}
use Rattle.field.specs.Galois.{is_field, IsField, modulus, width, generator, size, product, galois}
use Rattle.field.specs.Products.{products_outcome}

-- "the element g generates all nonzero elements"
abbrev pub Generates : ℕ → ℕ → Type 0
Generates m g = (a : ℕ) → a < size m → (a ≡ 0 → ⊥) → (i : ℕ) × (pow (product m) g i ≡ a)

pub record Fields : Type 0 where
  -- "Refusal 1 is given outside 2 to 9"
  pub numbers : (m : ℕ) → (is_field m ≡ true) ↔ ((2 ≤ m) × (m ≤ 9))
  -- each number's product and inverse are a field's, and its generator generates
  pub laws : (m : ℕ) → IsField m → Field (galois m)
  pub generates : (m : ℕ) → IsField m → Generates m (generator m)
  -- "the modulus for m = 2 to 8: hexadecimal 7, B, 13, 25, 43, 89, 11D", and for 9 "modulus hexadecimal 11B"
  pub moduli : map modulus (2 ∷ 3 ∷ 4 ∷ 5 ∷ 6 ∷ 7 ∷ 8 ∷ 9 ∷ []) ≡ 0x7 ∷ 0xB ∷ 0x13 ∷ 0x25 ∷ 0x43 ∷ 0x89 ∷ 0x11D ∷ 0x11B ∷ []
  -- "q = 2^m elements, m from 2 to 8", "the element 2 generates all nonzero elements"
  pub elements : (m : ℕ) → IsField m → m ≤ 8 → (width m ≡ m) × (size m ≡ 2 ^ m)
  pub two : (m : ℕ) → IsField m → m ≤ 8 → Generates m 2
  -- field number 9: "8-bit symbols", "where 2 doesn't generate but 3 does"
  pub elements_9 : (width 9 ≡ 8) × (size 9 ≡ 256)
  pub not_two_9 : Generates 9 2 → ⊥
  pub three_9 : Generates 9 3
  -- products known from outside, in hexadecimal: 53·CA = 01, 57·83 = C1, 57·13 = FE
  pub products_9 : products_outcome 9 (0x53 ∷ 0x57 ∷ 0x57 ∷ []) (0xCA ∷ 0x83 ∷ 0x13 ∷ []) 3 ≡ accepted (0x01 ∷ 0xC1 ∷ 0xFE ∷ [])
