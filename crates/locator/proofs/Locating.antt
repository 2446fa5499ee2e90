-- E of the lightest row after all places, by its values: the coefficients that an array has decide them, and where there is no room for a row they are zero.
use Prim.Native.Nat.{ℕ, suc, ◌-◌, ◌<◌, ◌≤◌}
use mathlib.Core.Path.{◌≡◌, refl, sym, ◌∙◌, ap}
use mathlib.Core.Bool.{Bool, true, false, cond, ◌&&◌}
use mathlib.Core.List.{List, [], ◌∷◌}
use native.Mathlib.Omega.{arith}
use lib.Dec.{ltb}
use lib.ListN.{length, get_or, take, replicate, length-replicate}
use borrow.Author.Tests.{ltb-true}
use Rattle.basics.specs.Lists.{table}
use Rattle.basics.proofs.Lists.{both_right, is_table, table_as, get_or_zeros}
use Rattle.field.specs.Galois.{IsField, galois}
use Rattle.field.proofs.Galois.{galois_field}
use Rattle.elliptic.specs.Curve.{point}
use Rattle.elliptic.specs.Pair.{evaluate}
use Rattle.elliptic.proofs.Padding.{evaluate_pad}
use Rattle.codewords.specs.Code.{points_at}
use Rattle.codewords.proofs.Places.{length_points_at}
use Rattle.decoding.specs.Rows.{Row, top, least, nobody, rows_after, found}
use Rattle.decoding.proofs.Least.{least_low}
use Rattle.locator.specs.Arrays.{Head, Heads, Layout, Pivot, Holds, After, Laid, lightest_of, values_in, locator_of}
use Rattle.locator.proofs.Choosing.{Named, lightest_named, chosen_a, chosen_b, chosen_c, chosen_d, chosen_none, index_none}

-- where there is no room for a row, it is none
least_none : (limit : ℕ) (q : Row → Bool) (rows : List Row) → limit < (least limit q rows).key → least limit q rows ≡ nobody limit
unfolding least
least_none limit q [] h = refl
least_none limit q (r ∷ rows) h = by (q r && ltb r.key best.key) refl (least_none limit q rows) h
  where
    best : Row
    best = least limit q rows

    by : (b : Bool) → (q r && ltb r.key best.key) ≡ b → (limit < best.key → best ≡ nobody limit) → limit < (cond b r best).key → cond b r best ≡ nobody limit
    by true e ih l =
        let less = ltb-true r.key best.key (both_right (q r) _ e) in
        let above : limit < r.key = l in
        absurd (omega (arith, least_low limit q rows))
    by false e ih l = ih l

nothing : (m : ℕ) (x y : ℕ) → evaluate (galois m) [] (point x y) ≡ 0
unfolding evaluate
nothing m x y = refl

module _ {m : ℕ} (field : IsField m) {shape : Layout} {xs ys us : List ℕ} (laid : Laid shape xs ys us)
    {hs : Heads} {a b c d : List ℕ} (after : After m shape xs ys us (length xs) hs a b c d) where
  abbrev k : ℕ
  k = shape.k

  abbrev t : ℕ
  t = shape.t

  abbrev w0 : Row
  w0 = after.first

  abbrev w1 : Row
  w1 = after.second

  abbrev w2 : Row
  w2 = after.third

  abbrev w3 : Row
  w3 = after.fourth

  abbrev all_rows : Row → Bool
  all_rows w = true

  abbrev best : Pivot
  best = lightest_of shape.top hs 1 1 1 1

  abbrev E : Row
  E = found k t (galois m) (points_at xs ys) us

  found_is : least (top k t) all_rows (w0 ∷ w1 ∷ w2 ∷ w3 ∷ []) ≡ E
  unfolding found
  found_is =
      ap (least (top k t) all_rows) (sym after.rows_are)
      ∙ ap (λ n. least (top k t) all_rows (rows_after k t (galois m) (points_at xs ys) us n)) (sym (length_points_at xs ys (sym laid.as_many)))

  named : Named (top k t) w0 w1 w2 w3 best E
  named =
      rw (laid.top_is, ← found_is)
      (lightest_named (top k t) all_rows w0 w1 w2 w3 hs 1 1 1 1 after.in_a.key_is after.in_b.key_is after.in_c.key_is after.in_d.key_is
      (λ l. refl) (λ l. refl) (λ l. refl) (λ l. refl))

  -- the coefficients behind those that an array has are zero
  padded : {h : Head} {row : List ℕ} {w : Row} → Holds m k t xs ys us (length xs) h row w → w.key ≤ top k t → E ≡ w
      → values_in m xs ys (take h.size row) ≡ values_in m xs ys (locator_of m shape xs ys us)
  padded {h} {row} {w} g l e =
      table_as _ _ (length xs)
      (λ i z.
      sym (evaluate_pad (galois_field field) (take h.size row) (suc t - h.size) _)
      ∙ ap (λ f. evaluate (galois m) f (point (get_or xs i 0) (get_or ys i 0))) (sym (g.live l).den_is ∙ ap (λ (r : Row). r.den) (sym e)))

  pub located_a : best.at ≡ 0 → values_in m xs ys (take hs.a.size a) ≡ values_in m xs ys (locator_of m shape xs ys us)
  located_a z = let (e, l) = chosen_a named.which z in padded after.in_a l e

  pub located_b : best.at ≡ 1 → values_in m xs ys (take hs.b.size b) ≡ values_in m xs ys (locator_of m shape xs ys us)
  located_b z = let (e, l) = chosen_b named.which z in padded after.in_b l e

  pub located_c : best.at ≡ 2 → values_in m xs ys (take hs.c.size c) ≡ values_in m xs ys (locator_of m shape xs ys us)
  located_c z = let (e, l) = chosen_c named.which z in padded after.in_c l e

  pub located_d : best.at ≡ 3 → values_in m xs ys (take hs.d.size d) ≡ values_in m xs ys (locator_of m shape xs ys us)
  located_d z = let (e, l) = chosen_d named.which z in padded after.in_d l e

  pub located_none : (best.at ≡ 0 → ⊥) → (best.at ≡ 1 → ⊥) → (best.at ≡ 2 → ⊥) → (best.at ≡ 3 → ⊥)
      → replicate (length xs) 0 ≡ values_in m xs ys (locator_of m shape xs ys us)
  located_none n0 n1 n2 n3 =
      is_table value (replicate (length xs) 0) 0
      (λ i h. get_or_zeros [] (length xs) i ∙ sym (ap (λ (r : Row). evaluate (galois m) r.den (point (get_or xs i 0) (get_or ys i 0))) nobody_is ∙ nothing m _ _))
      ∙ ap (table value) (length-replicate (length xs) 0)
    where
      value : ℕ → ℕ
      value i = evaluate (galois m) E.den (point (get_or xs i 0) (get_or ys i 0))

      nobody_is : E ≡ nobody (top k t)
      nobody_is = rw (← found_is) (least_none (top k t) all_rows _ (rw found_is (omega (arith, chosen_none named.which (index_none named.which n0 n1 n2 n3)))))
