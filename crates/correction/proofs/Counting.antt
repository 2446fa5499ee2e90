-- Kept places counted and found one place after the other, and the distance counted so.
use Prim.Native.Nat.{ℕ, zero, suc, ◌+◌, ◌-◌, ◌<◌, ◌≤◌}
use mathlib.Core.Path.{◌≡◌, refl, sym, ◌∙◌, ap, ap₂}
use mathlib.Core.Bool.{Bool, true, false, not, cond}
use mathlib.Core.List.{List, [], ◌∷◌, ◌++◌, append-nil}
use native.Mathlib.Omega.{arith}
use native.Mathlib.Numerals.{add-one}
use lib.Bits.{bit_xor}
use lib.Dec.{eqb}
use lib.ListN.{length, get_or, drop, length-append, drop_of_length-le}
use lib.Seq.{drop-cons}
use borrow.Author.Tests.{eq-eqb, ne_eqb, eqb-true, eqb-false}
use Rattle.field.specs.Sum.{◌⊕◌}
use Rattle.field.proofs.Sum.{⊕_self, ⊕_eq}
use Rattle.decoding.specs.Near.{distance}
use Rattle.correction.specs.Kept.{keeps_place, kept_before, kept_in, NextKept}
use Rattle.correction.specs.Runs.{kept_index}
use Rattle.correction.proofs.Passing.{more_passing, passing_at}

-- one place more
more_kept : (e : List ℕ) (i : ℕ) {b : Bool} → eqb (get_or e i 0) 0 ≡ b → kept_before e (suc i) ≡ kept_before e i ++ cond (not b) (suc i ∷ []) []
unfolding kept_before
more_kept e i {b} s =
    let back : suc i - 1 ≡ i = omega arith in
    more_passing (keeps_place e) i (ap (λ j. not (eqb (get_or e j 0) 0)) back ∙ ap not s)

no_more : (e : List ℕ) (i : ℕ) → eqb (get_or e i 0) 0 ≡ true → kept_before e (suc i) ≡ kept_before e i
no_more e i z = more_kept e i z ∙ append-nil (kept_before e i)

one_more : (e : List ℕ) (i : ℕ) → eqb (get_or e i 0) 0 ≡ false → length (kept_before e (suc i)) ≡ suc (length (kept_before e i))
one_more e i z = ap length (more_kept e i z) ∙ length-append (kept_before e i) (suc i ∷ []) ∙ add-one (length (kept_before e i))

pub none_kept : (e : List ℕ) → 0 ≡ length (kept_before e 0)
unfolding kept_before
none_kept e = refl

pub count_more : (e : List ℕ) (i : ℕ) {c r : ℕ} → c ≡ length (kept_before e i) → r ≡ cond (eqb (get_or e i 0) 0) c (c + 1) → r ≡ length (kept_before e (i + 1))
count_more e i {c} {r} h s = by (eqb (get_or e i 0) 0) refl s ∙ ap (λ j. length (kept_before e j)) (sym (add-one i))
  where
    by : (b : Bool) → eqb (get_or e i 0) 0 ≡ b → r ≡ cond b c (c + 1) → r ≡ length (kept_before e (suc i))
    by true z f = f ∙ h ∙ ap (λ l. length l) (sym (no_more e i z))
    by false z f = omega (arith, f, h, one_more e i z)

pub count_few : (e : List ℕ) (i : ℕ) → length (kept_before e i) ≤ i
count_few e zero = omega (arith, none_kept e)
count_few e (suc i) = by (eqb (get_or e i 0) 0) refl (count_few e i)
  where
    by : (b : Bool) → eqb (get_or e i 0) 0 ≡ b → length (kept_before e i) ≤ i → length (kept_before e (suc i)) ≤ suc i
    by true z h = rw (no_more e i z) (omega arith)
    by false z h = omega (arith, one_more e i z)

pub skip : (e : List ℕ) (i j : ℕ) → get_or e i 0 ≡ 0 → kept_before e i ≡ kept_before e j → kept_before e (i + 1) ≡ kept_before e j
skip e i j z h = ap (kept_before e) (add-one i) ∙ no_more e i (eq-eqb _ 0 z) ∙ h

-- the next kept place after i of them is the i-th
pub next_index : {e : List ℕ} {i j p : ℕ} → NextKept e j p → length (kept_before e j) ≡ i → i < length (kept_in e)
    → (p < length e) × (p ≡ kept_index e i) × (length (kept_before e (p + 1)) ≡ i + 1)
unfolding kept_before
next_index {e} {i} {j} {p} h c l = (inside, omega (arith, at), ap (λ j. length (kept_before e j)) (add-one p) ∙ one_more e p (ne_eqb _ 0 keeps) ∙ ap suc here ∙ sym (add-one i))
  where
    here : length (kept_before e p) ≡ i
    here = ap length h.none_between ∙ c

    inside : p < length e
    inside = let other : p ≡ length e → ⊥ = λ q. let same = ap (λ n. length (kept_before e n)) q in omega (arith, same, here) in omega (arith, h.within)

    keeps : get_or e p 0 ≡ 0 → ⊥
    keeps = h.keeps inside

    at : get_or (kept_in e) i 0 ≡ suc p
    at =
        let back : suc p - 1 ≡ p = omega arith in
        ap (λ i. get_or (kept_in e) i 0) (sym here) ∙ passing_at (keeps_place e) (length e) p inside (ap (λ j. not (eqb (get_or e j 0) 0)) back ∙ ap not (ne_eqb _ 0 keeps))

-- ---- the distance

differ : (a b : ℕ) (c : ℕ) → cond (eqb (bit_xor a b) 0) c (c + 1) ≡ c + cond (eqb a b) 0 1
unfolding ◌⊕◌
differ a b c = by (eqb a b) refl
  where
    by : (t : Bool) → eqb a b ≡ t → cond (eqb (bit_xor a b) 0) c (c + 1) ≡ c + cond t 0 1
    by true e = let z : a ⊕ b ≡ 0 = ap (λ x. a ⊕ x) (sym (eqb-true a b e)) ∙ ⊕_self a in rw (eq-eqb (bit_xor a b) 0 z) (omega arith)
    by false e = rw (ne_eqb (bit_xor a b) 0 (λ z. eqb-false a b e (⊕_eq {a = a} {b = b} z)))

distance_first : (a b : ℕ) (w r : List ℕ) → distance (a ∷ w) (b ∷ r) ≡ cond (eqb a b) 0 1 + distance w r
unfolding distance
distance_first a b w r = by (eqb a b)
  where
    by : (t : Bool) → cond t (distance w r) (suc (distance w r)) ≡ cond t 0 1 + distance w r
    by true = omega arith
    by false = omega arith

distance_none : distance [] [] ≡ 0
unfolding distance
distance_none = refl

pub distance_more : (w r : List ℕ) (i d : ℕ) {x total : ℕ} → length w ≡ length r → i < length w → d + distance (drop i w) (drop i r) ≡ total
    → x ≡ cond (eqb (bit_xor (get_or w i 0) (get_or r i 0)) 0) d (d + 1) → x + distance (drop (i + 1) w) (drop (i + 1) r) ≡ total
distance_more w r i d l h e f =
    let split : distance (drop i w) (drop i r) ≡ cond (eqb (get_or w i 0) (get_or r i 0)) 0 1 + distance (drop (suc i) w) (drop (suc i) r) =
    ap₂ distance (drop-cons w i 0 h) (drop-cons r i 0 (omega arith)) ∙ distance_first (get_or w i 0) (get_or r i 0) (drop (suc i) w) (drop (suc i) r) in
    let next : distance (drop (i + 1) w) (drop (i + 1) r) ≡ distance (drop (suc i) w) (drop (suc i) r) = ap (λ j. distance (drop j w) (drop j r)) (add-one i) in
    omega (arith, f, differ (get_or w i 0) (get_or r i 0) d)

pub distance_last : (w r : List ℕ) (i d : ℕ) {total : ℕ} → length w ≡ length r → length w ≤ i → d + distance (drop i w) (drop i r) ≡ total → d ≡ total
distance_last w r i d l h e =
    let none : distance (drop i w) (drop i r) ≡ 0 = ap₂ distance (drop_of_length-le w {i = i} h) (drop_of_length-le r {i = i} (omega arith)) ∙ distance_none in
    omega arith

pub more_le : (b : Bool) (d : ℕ) {x : ℕ} → x ≡ cond b d (d + 1) → x ≤ d + 1
more_le true d e = omega arith
more_le false d e = omega arith
