-- Where a run begins, and what one more point of a list adds to it.
use Prim.Native.Nat.{ℕ, ◌+◌, ◌<◌}
use mathlib.Core.Path.{◌≡◌, refl, sym, ◌∙◌, ap}
use mathlib.Core.Bool.{false}
use mathlib.Core.List.{List, []}
use native.Mathlib.Numerals.{add-one}
use native.Mathlib.Omega.{arith}
use lib.ListN.{length, get_or, replicate}
use Rattle.basics.specs.Lists.{table}
use Rattle.basics.proofs.Lists.{length_table, get_or_table, get_or_zeros}
use Rattle.field.specs.Sum.{◌⊕◌}
use Rattle.field.specs.Field.{Arithmetic, Field}
use Rattle.field.specs.Galois.{IsField, galois}
use Rattle.field.proofs.Laws.{ring}
use Rattle.field.proofs.Galois.{galois_field}
use Rattle.elliptic.specs.declared.Point.{Point}
use Rattle.elliptic.specs.Curve.{point}
use Rattle.elliptic.specs.Pair.{State, horner, evaluate, start, step, after}
use Rattle.engine.specs.declared.pair.Sizes.{Sizes}
use Rattle.engine.specs.Arrays.{Small}
use Rattle.values.specs.Values.{Shows, ShownIn, Fits, Coordinates, points_in, one}

-- ---- L = 1 and U = Y, and the interpolant 0

module _ {F : Arithmetic} (K : Field F) where
  infixl 70 ◌·◌
  open F use {q, ◌·◌}
  open K use {one_mul}

  one_value : (x y : ℕ) → 1 ⊕ x · 0 ⊕ y · 0 ≡ 1
  one_value x y = simp ring

  y_value : (x y : ℕ) → 0 ⊕ x · (0 ⊕ x · 0) ⊕ y · (1 ⊕ x · 0) ≡ 1 · y
  y_value x y = simp ring

  pub start_low : (P : Point) → evaluate F start.low P ≡ 1
  unfolding evaluate horner
  start_low P = one_value P.x P.y

  start_high : (P : Point) → P.y < q → evaluate F start.high P ≡ P.y
  unfolding evaluate horner
  start_high P h = y_value P.x P.y ∙ one_mul P.y h

module _ {m : ℕ} {xs ys : List ℕ} (c : Coordinates m xs ys) where
  pub begun_size : {l : List ℕ} → l ≡ table one (length ys) → length l ≡ length xs
  begun_size e = ap length e ∙ length_table one (length ys) ∙ c.as_many

module _ {m : ℕ} (k : IsField m) {xs ys : List ℕ} (c : Coordinates m xs ys) where
  pub begins : {l u : List ℕ} {n : Sizes} → n.low ≡ 1 → n.high ≡ 3 → n.turned ≡ false → l ≡ table one (length ys) → u ≡ ys → ShownIn m xs ys 0 l u n start
  begins {l} {u} {n} e f g p r =
      rw (e, f, g) (record {
        low_values = record {
          size = begun_size c p;
          at = λ i a b. rw p (get_or_table one (length ys) i 0 (omega (arith, c.as_many))) ∙ sym (start_low (galois_field k) (point (get_or xs i 0) (get_or ys i 0)));
        };
        high_values = record {
          size = rw r c.as_many;
          at = λ i a b. rw r (sym (start_high (galois_field k) (point (get_or xs i 0) (get_or ys i 0)) (c.below i b)));
        };
        low_size = refl;
        high_size = refl;
      })

  pub begins_word : {f : List ℕ} → length f ≡ length xs → f ≡ replicate (length f) 0 → Shows m xs ys 0 start.word f
  unfolding evaluate
  begins_word {f} e z = record { size = e; at = λ i a b. rw z (get_or_zeros [] (length f) i) }

-- ---- one more point

-- there is room for a step
pub fits : {m d : ℕ} {xs ys a b : List ℕ} {n : Sizes} {s : State} → length a ≡ length xs → length b ≡ length xs → Small s → ShownIn m xs ys d a b n s → Fits xs a b n
fits p q small h = record { first = p; second = q; low_room = omega (arith, h.low_size, small.low_room); high_room = omega (arith, h.high_size, small.high_room) }

-- one point more of a list
module _ (m : ℕ) (xs ys : List ℕ) where
  pub point_more : (us : List ℕ) (i : ℕ) → i < length xs
      → step (galois m) (point (get_or xs i 0) (get_or ys i 0)) (get_or us i 0) (after (galois m) (points_in xs ys) us i) ≡ after (galois m) (points_in xs ys) us (i + 1)
  unfolding after
  point_more us i h = rw (add-one, get_or_table (λ i. point (get_or xs i 0) (get_or ys i 0)) (length xs) i (point 0 0) h)

  pub first_more : (i : ℕ) → i < length xs → step (galois m) (point (get_or xs i 0) (get_or ys i 0)) 0 (after (galois m) (points_in xs ys) [] i) ≡ after (galois m) (points_in xs ys) [] (i + 1)
  first_more i h = point_more [] i h
