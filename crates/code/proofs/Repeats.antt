-- Whether a list has an element twice, seen through another list: of its points, through their slots.
use Prim.Native.Nat.{ℕ, ◌<◌}
use mathlib.Core.Path.{◌≡◌, refl, sym, ◌∙◌, ap}
use mathlib.Core.Bool.{Bool, true, false, false≢true}
use mathlib.Core.List.{List}
use native.Mathlib.Omega.{arith}
use borrow.Author.Tests.{ltb-true}
use lib.Dec.{eqb, ltb}
use lib.ListN.{length, get_or}
use Rattle.basics.specs.Lists.{all, different, table}
use Rattle.basics.proofs.Lists.{both, all_get, different_get, different_of, length_table, get_or_table, is_table}
use Rattle.field.specs.Galois.{IsField, size, galois}
use Rattle.field.proofs.Galois.{galois_field}
use Rattle.elliptic.specs.declared.Curve.{Curve}
use Rattle.elliptic.specs.Curve.{point, same_point, in_field, coefficients_of, coefficients_below}
use Rattle.elliptic.proofs.Points.{On, on_of}
use Rattle.codewords.specs.Code.{points_at}
use Rattle.code.specs.Points.{is_point}
use Rattle.code.specs.Slots.{listed, slot_at}
use Rattle.codewords.proofs.Places.{length_points_at}
use Rattle.codewords.proofs.Coordinates.{points_get}
use Rattle.code.proofs.Injective.{slot_same}

-- two lists whose elements are alike index by index
different_as : {A B : Type 0} (s : A → A → Bool) (t : B → B → Bool) (l : List A) (m : List B) (d : A) (e : B) → length l ≡ length m
    → ((i j : ℕ) → i < j → j < length l → s (get_or l i d) (get_or l j d) ≡ t (get_or m i e) (get_or m j e)) → different s l ≡ different t m
different_as s t l m d e n h = by (different s l) (different t m) refl refl
  where
    by : (a b : Bool) → different s l ≡ a → different t m ≡ b → different s l ≡ different t m
    by true b p q = p ∙ sym (different_of t m e (λ i j lt k. sym (h i j lt (omega arith)) ∙ different_get s l d i j p lt (omega arith)))
    by false false p q = p ∙ sym q
    by false true p q = absurd (false≢true (sym p ∙ different_of s l d (λ i j lt k. h i j lt k ∙ different_get t m e i j q lt (omega arith))))

module _ (xs ys : List ℕ) (n : length xs ≡ length ys) where
  pub points_table : points_at xs ys ≡ table (listed xs ys) (length xs)
  points_table = is_table (listed xs ys) (points_at xs ys) (point 0 0) (λ i h. points_get xs ys n i) ∙ ap (table (listed xs ys)) (length_points_at xs ys n)

  module _ {m : ℕ} (f : IsField m) (C : Curve) (below : coefficients_below (size m) C ≡ true) (on : all (is_point (galois m) C) (points_at xs ys) ≡ true) where
    small : C.g3 < size m
    small = ltb-true C.g3 (size m) (all_get (λ g. ltb g (size m)) (coefficients_of C) 0 2 below (omega arith))

    on_at : (i : ℕ) → i < length xs → On (galois m) C (listed xs ys i)
    on_at i h =
        let t = rw (points_get xs ys n i) at (all_get (is_point (galois m) C) (points_at xs ys) (point 0 0) i on (rw (length_points_at xs ys n) h)) in
        let u = both (in_field (galois m) (listed xs ys i)) _ t in
        on_of (galois m) C _ u.0 u.1

    pub slots_differ : different eqb (table (slot_at (galois m) C xs ys) (length xs)) ≡ different same_point (points_at xs ys)
    slots_differ =
        sym
        (different_as same_point eqb (points_at xs ys) (table (slot_at (galois m) C xs ys) (length xs)) (point 0 0) 0
        (length_points_at xs ys n ∙ sym (length_table _ (length xs)))
        (λ i j lt k.
        let kx : j < length xs = omega (arith, length_points_at xs ys n) in
        rw (points_get xs ys n i, points_get xs ys n j, get_or_table (slot_at (galois m) C xs ys) (length xs) i 0 (omega arith), get_or_table (slot_at (galois m) C xs ys) (length xs) j 0 kx)
        (slot_same (galois_field f) C small (on_at i (omega arith)) (on_at j kx))))
