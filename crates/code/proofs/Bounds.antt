-- Whether all points have coordinates in the field, by the bits of all coordinates together: q is a power of 2, so two numbers are below it exactly if `|` of them is.
use Prim.Native.Nat.{ℕ, ◌^◌, ◌≤◌}
use mathlib.Core.Path.{◌≡◌, refl, ◌∙◌, ap₂}
use mathlib.Core.Bool.{Bool, true, false, ◌&&◌}
use mathlib.Core.List.{List, [], ◌∷◌}
use native.Mathlib.Decide.{dec_lt}
use native.Mathlib.Omega.{arith}
use borrow.Author.Tests.{lt-ltb, le-ltb}
use lib.Bits.{bit_or, or_lt, or_comm, or_add_and, and_le_r}
use lib.Dec.{ltb}
use lib.Pow.{pow_pos}
use Rattle.basics.specs.Lists.{all}
use Rattle.field.specs.Galois.{size, galois, width}
use Rattle.elliptic.specs.declared.Point.{Point}
use Rattle.elliptic.specs.Curve.{in_field}

le_or : (a b : ℕ) → a ≤ bit_or a b
le_or a b = omega (arith, or_add_and a b, and_le_r a b)

below_or : (w a b : ℕ) → ltb (bit_or a b) (2 ^ w) ≡ (ltb a (2 ^ w) && ltb b (2 ^ w))
below_or w a b =
    elim (dec_lt a (2 ^ w)) [
      | yes h ↦ elim (dec_lt b (2 ^ w)) [
        | yes k ↦ rw (lt-ltb a (2 ^ w) h, lt-ltb b (2 ^ w) k) (lt-ltb (bit_or a b) (2 ^ w) (or_lt w a b h k))
        | no k ↦ rw (lt-ltb a (2 ^ w) h, le-ltb b (2 ^ w) (omega arith)) (le-ltb (bit_or a b) (2 ^ w) (omega (arith, le_or b a, or_comm a b)))
      ]
      | no h ↦ rw (le-ltb a (2 ^ w) (omega arith)) (le-ltb (bit_or a b) (2 ^ w) (omega (arith, le_or a b)))
    ]

pub bits_none : (m : ℕ) → ltb 0 (size m) ≡ true
unfolding size
bits_none m = lt-ltb 0 (2 ^ width m) (pow_pos (width m))

-- one point more
pub bits_next : (m bits : ℕ) (P : Point) {inside : Bool} → ltb bits (size m) ≡ inside → ltb (bit_or bits (bit_or P.x P.y)) (size m) ≡ (inside && in_field (galois m) P)
unfolding size
bits_next m bits P e = below_or (width m) bits (bit_or P.x P.y) ∙ ap₂ ◌&&◌ e (below_or (width m) P.x P.y)

-- two tests of all elements, one after the other
pub all_both : {A : Type 0} (p r : A → Bool) (l : List A) → all (λ a. p a && r a) l ≡ (all p l && all r l)
all_both p r [] = refl
all_both p r (a ∷ l) = by (p a) (r a) (all p l) (all r l) (all_both p r l)
  where
    by : (b c d e : Bool) {f : Bool} → f ≡ (d && e) → ((b && c) && f) ≡ ((b && d) && (c && e))
    by true true d e h = h
    by true false true e h = refl
    by true false false e h = refl
    by false c d e h = refl
