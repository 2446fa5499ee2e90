-- The pivot that keys and defects give is the lightest row of the definition: a row that there is no room for is never lighter, whatever its array holds.
use Prim.Native.Nat.{ℕ, suc, ◌≤◌}
use mathlib.Core.Path.{◌≡◌, refl, sym, ◌∙◌, ap, ap₂}
use mathlib.Core.Bool.{Bool, true, false, cond, not, ◌&&◌}
use mathlib.Core.List.{[], ◌∷◌}
use native.Mathlib.Omega.{arith}
use lib.Dec.{eqb, ltb}
use borrow.Author.Tests.{ltb-true}
use Rattle.basics.proofs.Lists.{both_right}
use Rattle.decoding.specs.Rows.{Row, least}
use Rattle.locator.specs.Arrays.{Heads, Pivot, lighter_of, lightest_of}

-- which of four rows it is
pub data Which (limit : ℕ) (w0 w1 w2 w3 : Row) (at : ℕ) (w : Row) : Type 0 where
  is_a : at ≡ 0 → w ≡ w0 → w.key ≤ limit → Which limit w0 w1 w2 w3 at w
  is_b : at ≡ 1 → w ≡ w1 → w.key ≤ limit → Which limit w0 w1 w2 w3 at w
  is_c : at ≡ 2 → w ≡ w2 → w.key ≤ limit → Which limit w0 w1 w2 w3 at w
  is_d : at ≡ 3 → w ≡ w3 → w.key ≤ limit → Which limit w0 w1 w2 w3 at w
  none : at ≡ 4 → w.key ≡ suc limit → Which limit w0 w1 w2 w3 at w

-- a pivot stands for a row
pub record Named (limit : ℕ) (w0 w1 w2 w3 : Row) (b : Pivot) (w : Row) : Type 0 where
  pub key_is : b.key ≡ w.key
  pub low : w.key ≤ suc limit
  pub which : Which limit w0 w1 w2 w3 b.at w

both_same : (x y l : Bool) → (l ≡ true → x ≡ y) → (x && l) ≡ (y && l)
both_same x y true h = ap (λ z. z && true) (h refl)
both_same true true false h = refl
both_same true false false h = refl
both_same false true false h = refl
both_same false false false h = refl

module _ (limit : ℕ) (q : Row → Bool) (w0 w1 w2 w3 : Row) where
  -- one row more
  lighter_named : {b : Pivot} {w : Row} (j κ d : ℕ) (v : Row) → v.key ≡ κ → (v.key ≤ limit → q v ≡ not (eqb d 0))
      → ((at : ℕ) → at ≡ j → v.key ≤ limit → Which limit w0 w1 w2 w3 at v)
      → Named limit w0 w1 w2 w3 b w → Named limit w0 w1 w2 w3 (lighter_of b j κ d) (cond (q v && ltb v.key w.key) v w)
  lighter_named {b} {w} j κ d v e met put n = by (q v && ltb v.key w.key) refl
    where
      same : (not (eqb d 0) && ltb κ b.key) ≡ (q v && ltb v.key w.key)
      same =
          ap (λ l. not (eqb d 0) && l) (ap₂ ltb (sym e) n.key_is)
          ∙ both_same _ _ (ltb v.key w.key) (λ l. sym (met (let less = ltb-true v.key w.key l in omega (arith, n.low))))

      by : (x : Bool) → (q v && ltb v.key w.key) ≡ x → Named limit w0 w1 w2 w3 (lighter_of b j κ d) (cond x v w)
      by true h =
          let less = ltb-true v.key w.key (both_right (q v) _ h) in
          let room : v.key ≤ limit = omega (arith, n.low) in
          rw (same ∙ h) (record { key_is = sym e; low = omega arith; which = put j refl room })
      by false h = rw (same ∙ h) n

  pub lightest_named : (hs : Heads) (p r s t : ℕ) → w0.key ≡ hs.a.key → w1.key ≡ hs.b.key → w2.key ≡ hs.c.key → w3.key ≡ hs.d.key
      → (w0.key ≤ limit → q w0 ≡ not (eqb p 0)) → (w1.key ≤ limit → q w1 ≡ not (eqb r 0))
      → (w2.key ≤ limit → q w2 ≡ not (eqb s 0)) → (w3.key ≤ limit → q w3 ≡ not (eqb t 0))
      → Named limit w0 w1 w2 w3 (lightest_of limit hs p r s t) (least limit q (w0 ∷ w1 ∷ w2 ∷ w3 ∷ []))
  unfolding least
  lightest_named hs p r s t ea eb ec ed ma mb mc md =
      lighter_named 0 _ p w0 ea ma (λ n z l. is_a z refl l)
      (lighter_named 1 _ r w1 eb mb (λ n z l. is_b z refl l)
      (lighter_named 2 _ s w2 ec mc (λ n z l. is_c z refl l)
      (lighter_named 3 _ t w3 ed md (λ n z l. is_d z refl l)
      (record { key_is = omega arith; low = omega arith; which = none refl refl }))))

-- ---- the row by its index

module _ {limit : ℕ} {w0 w1 w2 w3 : Row} {at : ℕ} {w : Row} where
  pub chosen_a : Which limit w0 w1 w2 w3 at w → at ≡ 0 → (w ≡ w0) × (w0.key ≤ limit)
  chosen_a (is_a z e l) h = (e, rw (← e) l)
  chosen_a (is_b z e l) h = absurd (omega arith)
  chosen_a (is_c z e l) h = absurd (omega arith)
  chosen_a (is_d z e l) h = absurd (omega arith)
  chosen_a (none z e) h = absurd (omega arith)

  pub chosen_b : Which limit w0 w1 w2 w3 at w → at ≡ 1 → (w ≡ w1) × (w1.key ≤ limit)
  chosen_b (is_a z e l) h = absurd (omega arith)
  chosen_b (is_b z e l) h = (e, rw (← e) l)
  chosen_b (is_c z e l) h = absurd (omega arith)
  chosen_b (is_d z e l) h = absurd (omega arith)
  chosen_b (none z e) h = absurd (omega arith)

  pub chosen_c : Which limit w0 w1 w2 w3 at w → at ≡ 2 → (w ≡ w2) × (w2.key ≤ limit)
  chosen_c (is_a z e l) h = absurd (omega arith)
  chosen_c (is_b z e l) h = absurd (omega arith)
  chosen_c (is_c z e l) h = (e, rw (← e) l)
  chosen_c (is_d z e l) h = absurd (omega arith)
  chosen_c (none z e) h = absurd (omega arith)

  pub chosen_d : Which limit w0 w1 w2 w3 at w → at ≡ 3 → (w ≡ w3) × (w3.key ≤ limit)
  chosen_d (is_a z e l) h = absurd (omega arith)
  chosen_d (is_b z e l) h = absurd (omega arith)
  chosen_d (is_c z e l) h = absurd (omega arith)
  chosen_d (is_d z e l) h = (e, rw (← e) l)
  chosen_d (none z e) h = absurd (omega arith)

  pub chosen_none : Which limit w0 w1 w2 w3 at w → at ≡ 4 → w.key ≡ suc limit
  chosen_none (is_a z e l) h = absurd (omega arith)
  chosen_none (is_b z e l) h = absurd (omega arith)
  chosen_none (is_c z e l) h = absurd (omega arith)
  chosen_none (is_d z e l) h = absurd (omega arith)
  chosen_none (none z e) h = e

  -- the index that is left
  pub index_d : Which limit w0 w1 w2 w3 at w → (at ≡ 0 → ⊥) → (at ≡ 1 → ⊥) → (at ≡ 2 → ⊥) → (at ≡ 4 → ⊥) → at ≡ 3
  index_d (is_a z e l) n0 n1 n2 n4 = absurd (n0 z)
  index_d (is_b z e l) n0 n1 n2 n4 = absurd (n1 z)
  index_d (is_c z e l) n0 n1 n2 n4 = absurd (n2 z)
  index_d (is_d z e l) n0 n1 n2 n4 = z
  index_d (none z e) n0 n1 n2 n4 = absurd (n4 z)

  pub index_none : Which limit w0 w1 w2 w3 at w → (at ≡ 0 → ⊥) → (at ≡ 1 → ⊥) → (at ≡ 2 → ⊥) → (at ≡ 3 → ⊥) → at ≡ 4
  index_none (is_a z e l) n0 n1 n2 n3 = absurd (n0 z)
  index_none (is_b z e l) n0 n1 n2 n3 = absurd (n1 z)
  index_none (is_c z e l) n0 n1 n2 n3 = absurd (n2 z)
  index_none (is_d z e l) n0 n1 n2 n3 = absurd (n3 z)
  index_none (none z e) n0 n1 n2 n3 = z

-- ---- the pivot of the code by that of the definition

module _ {p best : Pivot} (e : p ≡ best) {j : ℕ} where
  pub is_at : p.at ≡ j → best.at ≡ j
  is_at z = sym (ap (λ (p : Pivot). p.at) e) ∙ z

  pub not_at : (p.at ≡ j → ⊥) → best.at ≡ j → ⊥
  not_at n z = n (ap (λ (p : Pivot). p.at) e ∙ z)
