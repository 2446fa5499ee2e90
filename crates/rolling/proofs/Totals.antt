-- The present codes: how many there are, what they add up to, and the rolling mean from these two numbers.
use Prim.Native.Nat.{ℕ, zero, suc, ◌+◌, ◌*◌, ◌-◌, ◌≤◌, ◌<◌}
use mathlib.Core.Bool.{Bool, true, false, cond, not, or-false}
use mathlib.Core.Path.{◌≡◌, refl, sym, ◌∙◌, ap}
use mathlib.Core.List.{List, [], ◌∷◌, map}
use native.Mathlib.Omega.{arith}
use borrow.Author.Tests.{leb-true, ltb-true, ne_eqb}
use lib.Dec.{ltb, eqb}
use mir.Val.{bool_byte}
use lib.IntN.{ℤ, pos, negsuc, nat_abs, neg_ℤ-+ℤ, neg_ℤ, ◌+ℤ◌, ◌-ℤ◌, +ℤ_assoc, +ℤ_comm}
use lib.ListN.{length, get_or, drop, drop_of_length-le, length-map}
use Rattle.basics.specs.Lists.{all}
use Rattle.basics.proofs.Lists.{both_left, both_right, length_filter}
use Rattle.basics.proofs.Loops.{next}
use Rattle.hours.specs.Means.{sum, nearest, absent}
use Rattle.hours.specs.Packing.{is_absent, is_code, decode}
use Rattle.rolling.specs.Runs.{present}
use Rattle.rolling.specs.State.{absent_code, figure, present_codes, total}

-- 1 for a present mean, and 0 for an absent one
abbrev one : ℕ → ℕ
one c = bool_byte (not (eqb c 32767))

-- ---- one code at the front

module _ (c : ℕ) (cs : List ℕ) where
  front_count : length (present_codes (c ∷ cs)) ≡ one c + length (present_codes cs)
  front_count = go (eqb c 32767)
    where
      go : (b : Bool) → length (cond (not b) (c ∷ present_codes cs) (present_codes cs)) ≡ bool_byte (not b) + length (present_codes cs)
      go true = omega arith
      go false = omega arith

  front_total : total (present_codes (c ∷ cs)) ≡ one c * c + total (present_codes cs)
  front_total = go (eqb c 32767)
    where
      go : (b : Bool) → total (cond (not b) (c ∷ present_codes cs) (present_codes cs)) ≡ bool_byte (not b) * c + total (present_codes cs)
      go true = omega arith
      go false = omega arith

-- a present code is at most 22000
present_small : (c : ℕ) → is_code c ≡ true → eqb c 32767 ≡ false → c ≤ 22000
present_small c k e = leb-true c 22000 (rw (e, or-false) at k)

front_small : (c : ℕ) → is_code c ≡ true → one c * c ≤ 22000 * one c
front_small c k = go (eqb c 32767) refl
  where
    go : (b : Bool) → eqb c 32767 ≡ b → bool_byte (not b) * c ≤ 22000 * bool_byte (not b)
    go true e = omega arith
    go false e = omega (arith, present_small c k e)

total_small : (codes : List ℕ) → all is_code codes ≡ true → total (present_codes codes) ≤ 22000 * length (present_codes codes)
total_small [] k = omega arith
total_small (c ∷ cs) k =
    let rest = total_small cs (both_right (is_code c) (all is_code cs) k) in
    omega (arith, rest, front_count c cs, front_total c cs, front_small c (both_left (is_code c) (all is_code cs) k))

-- ---- the loop that adds them up

-- before i they are in the count and the sum, from i on they are to come
pub record Added (codes : List ℕ) (i count s : ℕ) : Type 0 where
  pub many : count + length (present_codes (drop i codes)) ≡ length (present_codes codes)
  pub sums : s + total (present_codes (drop i codes)) ≡ total (present_codes codes)

module _ (codes : List ℕ) where
  pub none_added : Added codes 0 0 0
  none_added = record { many = omega arith; sums = omega arith }

  module _ {i count s : ℕ} (a : Added codes i count s) where
    pub one_added : {n c : ℕ} → i < length codes → n ≡ one (get_or codes i 0) → c ≡ get_or codes i 0 → Added codes (i + 1) (count + n) (s + n * c)
    one_added h p q =
        let d = get_or codes i 0 in
        let rest = drop (i + 1) codes in
        let e : drop i codes ≡ d ∷ rest = next codes 0 i h in
        rw (p, q) (record { many = omega (arith, rw e at a.many, front_count d rest); sums = omega (arith, rw e at a.sums, front_total d rest) })

    pub all_added : length codes ≤ i → (count ≡ length (present_codes codes)) × (s ≡ total (present_codes codes))
    all_added h =
        let e : drop i codes ≡ [] = drop_of_length-le codes h in
        (omega (arith, rw e at a.many), omega (arith, rw e at a.sums))

    pub added_small : length codes ≤ 24 → all is_code codes ≡ true → (count ≤ 24) × (s ≤ 528000)
    added_small h k =
        let few = length_filter (λ c. not (absent_code c)) codes in
        (omega (arith, a.many, few), omega (arith, a.sums, few, total_small codes k))

-- ---- the mean from the two numbers

-- a present mean
abbrev value : ℕ → ℤ
value c = pos c -ℤ pos 2000

value_present : (c : ℕ) → c ≤ 22000 → is_absent (value c) ≡ false
value_present c h = go (ltb c 2000)
  where
    go : (b : Bool) → is_absent (cond b (negsuc (2000 - suc c)) (pos (c - 2000))) ≡ false
    go true = refl
    go false = ne_eqb (c - 2000) 32767 (λ e. omega arith)

decoded : (codes : List ℕ) → all is_code codes ≡ true → present (map decode codes) ≡ map value (present_codes codes)
decoded [] k = refl
decoded (c ∷ cs) k = go (eqb c 32767) refl (decoded cs (both_right (is_code c) (all is_code cs) k))
  where
    go : (b : Bool) → eqb c 32767 ≡ b → present (map decode cs) ≡ map value (present_codes cs)
        → present (cond b absent (value c) ∷ map decode cs) ≡ map value (cond (not b) (c ∷ present_codes cs) (present_codes cs))
    go true e h = h
    go false e h = rw (value_present c (present_small c (both_left (is_code c) (all is_code cs) k) e)) (ap (λ l. value c ∷ l) h)

swap_middle : (w x y z : ℤ) → (w +ℤ x) +ℤ (y +ℤ z) ≡ (w +ℤ y) +ℤ (x +ℤ z)
swap_middle w x y z =
    let inner = sym (+ℤ_assoc x y z) ∙ ap (λ s. s +ℤ z) (+ℤ_comm x y) ∙ +ℤ_assoc y x z in
    +ℤ_assoc w x (y +ℤ z) ∙ ap (λ s. w +ℤ s) inner ∙ sym (+ℤ_assoc w y (x +ℤ z))

add_differences : (a b c d : ℕ) → (pos a -ℤ pos b) +ℤ (pos c -ℤ pos d) ≡ pos (a + c) -ℤ pos (b + d)
add_differences a b c d = swap_middle (pos a) (neg_ℤ (pos b)) (pos c) (neg_ℤ (pos d)) ∙ ap (λ s. pos (a + c) +ℤ s) (sym (neg_ℤ-+ℤ (pos b) (pos d)))

sum_values : (l : List ℕ) → sum (map value l) ≡ pos (total l) -ℤ pos (2000 * length l)
sum_values [] = refl
sum_values (c ∷ l) =
    let e : 2000 + 2000 * length l ≡ 2000 * suc (length l) = omega arith in
    ap (λ s. value c +ℤ s) (sum_values l) ∙ add_differences c 2000 (total l) (2000 * length l) ∙ ap (λ n. pos (c + total l) -ℤ pos n) e

-- their number n and their total t
module _ (codes : List ℕ) (k : all is_code codes ≡ true) {n t : ℕ} (e : (n ≡ length (present_codes codes)) × (t ≡ total (present_codes codes))) where
  pub figure_by_totals : figure codes ≡ cond (ltb n 18) absent (nearest (pos t -ℤ pos (2000 * n)) n)
  unfolding figure
  figure_by_totals = rw (e.0, e.1, decoded codes k, length-map (present_codes codes) value, sum_values (present_codes codes)) refl

  pub totals_small : length codes ≤ 24 → (n ≤ 24) × (t ≤ 22000 * n)
  totals_small h = (omega (arith, e.0, length_filter (λ c. not (absent_code c)) codes), omega (arith, e.0, e.1, total_small codes k))

-- the sum of n present means, whose codes have the total t
pub sum_small : (n t : ℕ) → t ≤ 22000 * n → nat_abs (pos t -ℤ pos (2000 * n)) ≤ 20000 * n
sum_small n t h = omega (arith, distance t (2000 * n))
  where
    distance : (a b : ℕ) → nat_abs (pos a -ℤ pos b) ≤ (a - b) + (b - a)
    distance a zero = omega arith
    distance a (suc b) = go (ltb a (suc b)) refl
      where
        go : (q : Bool) → ltb a (suc b) ≡ q → nat_abs (cond q (negsuc (suc b - suc a)) (pos (a - suc b))) ≤ (a - suc b) + (suc b - a)
        go true e = omega (arith, ltb-true a (suc b) e)
        go false e = omega arith
