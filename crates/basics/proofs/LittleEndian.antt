-- Bytes as one number: each byte stands eight bits above the one before it, so a bit of the number is a bit of one byte.
use Prim.Native.Nat.{ℕ, zero, suc, ◌+◌, ◌*◌, ◌-◌, ◌/◌, ◌%◌, ◌^◌, ◌≤◌, ◌<◌}
use mathlib.Core.Path.{◌≡◌, sym, ◌∙◌, ap}
use mathlib.Core.List.{List, [], ◌∷◌, ◌++◌}
use native.Mathlib.Nat.{zero-div, mul-suc, add-mul, mul_assoc, add_assoc, min-le_left, lt_of_lt_of_le}
use native.Mathlib.Numerals.{add-one}
use native.Mathlib.Decide.{dec_lt}
use native.Mathlib.Omega.{arith}
use lib.Arith.{digits_lt}
use lib.Bits.{bit_or, or_shifted_r}
use lib.Dec.{eqb}
use lib.ListN.{length, get_or, take, drop, length-take}
use lib.Pow.{pow_mono, pow-add, shr-shr, shl_exact, high, low, field, mod-mod-pow}
use lib.Seq.{length-take-le, take-suc, get_or-take, get_or-drop}
use Rattle.basics.specs.SetBits.{Bytes, little_endian, is_set}

tail : (b : ℕ) (l : List ℕ) → Bytes (b ∷ l) → Bytes l
tail b l h i = h (suc i)

-- ---- the number that grows by one byte

one_more : (n : ℕ) → 2 ^ (8 * suc n) ≡ 2 ^ (8 * n) * 2 ^ 8
one_more n = rw (mul-suc 8 n) (pow-add 2 (8 * n) 8)

little_lt : (l : List ℕ) → Bytes l → little_endian l < 2 ^ (8 * length l)
unfolding little_endian
little_lt [] h = omega arith
little_lt (b ∷ l) h = rw (one_more (length l)) (digits_lt (little_lt l (tail b l h)) (h 0))

little_snoc : (l : List ℕ) (b : ℕ) → little_endian (l ++ (b ∷ [])) ≡ b * 2 ^ (8 * length l) + little_endian l
unfolding little_endian
little_snoc [] b = omega arith
little_snoc (a ∷ l) b =
    rw (little_snoc l b, one_more (length l), add-mul, mul_assoc) (add_assoc (b * (2 ^ (8 * length l) * 2 ^ 8)) (little_endian l * 2 ^ 8) a)

bytes_take : (l : List ℕ) (n : ℕ) → Bytes l → Bytes (take n l)
bytes_take l zero h i = omega arith
bytes_take [] (suc n) h i = h i
bytes_take (b ∷ l) (suc n) h zero = h 0
bytes_take (b ∷ l) (suc n) h (suc i) = bytes_take l n (tail b l h) i

pub bytes_drop : (l : List ℕ) (n : ℕ) → Bytes l → Bytes (drop n l)
bytes_drop l n h i = rw (get_or-drop n l i 0) (h (n + i))

-- the next byte comes in above the others, in a machine word that has room for it
pub little_more : (width : ℕ) (l : List ℕ) (j : ℕ) {x b : ℕ} → Bytes l → j < length l → 8 + 8 * j ≤ width → x ≡ little_endian (take j l) → b ≡ get_or l j 0
    → bit_or x ((b * 2 ^ (8 * j)) % 2 ^ width) ≡ little_endian (take (j + 1) l)
little_more width l j {x} {b} h k room is_x is_b =
    let front = take j l in
    let long : length front ≡ j = length-take-le j l (omega arith) in
    let fits : little_endian front < 2 ^ (8 * j) = rw long at (little_lt front (bytes_take l j h)) in
    rw (is_x, is_b, shl_exact {a = get_or l j 0} 8 (8 * j) width (h j) room, or_shifted_r (get_or l j 0) (8 * j) (little_endian front) fits, add-one, take-suc l j 0 k)
    (sym (little_snoc front (get_or l j 0) ∙ rw long))

-- ---- its bits

-- b below, where x stands w bits higher
module _ (w x b j : ℕ) (lt : b < 2 ^ w) where
  bit_below : j < w → is_set (x * 2 ^ w + b) j ≡ is_set b j
  bit_below h =
      let n = x * 2 ^ w + b in
      let above : w - j - 1 + 1 ≡ w - j = omega arith in
      let all-bits : w - j + j ≡ w = omega arith in
      let bit : n / 2 ^ j % 2 ≡ b / 2 ^ j % 2 = sym (mod-mod-pow (n / 2 ^ j) (w - j - 1) 1) ∙ rw (above, ← field n (w - j) j, all-bits, low x w lt) in
      ap (λ y. eqb y 1) bit

  bit_above : is_set (x * 2 ^ w + b) (w + j) ≡ is_set x j
  bit_above = rw (← shr-shr (x * 2 ^ w + b) w j, high x w lt)

-- bit j is bit j mod 8 of byte j div 8
pub little_bit : (l : List ℕ) → Bytes l → (j : ℕ) → is_set (little_endian l) j ≡ is_set (get_or l (j / 8) 0) (j % 8)
unfolding little_endian
little_bit [] h j = rw (zero-div (2 ^ j), zero-div (2 ^ (j % 8)))
little_bit (b ∷ l) h j =
    elim (dec_lt j 8) [
      | yes k ↦ (let first : j / 8 ≡ 0 = omega arith in let same : j % 8 ≡ j = omega arith in rw (first, same) (bit_below 8 (little_endian l) b j (h 0) k))
      | no k ↦ (let i = j - 8 in
          let here : j ≡ 8 + i = omega arith in
          let byte : (8 + i) / 8 ≡ suc (i / 8) = omega arith in
          let bit : (8 + i) % 8 ≡ i % 8 = omega arith in
          rw (here, byte, bit) (bit_above 8 (little_endian l) b i (h 0) ∙ little_bit l (tail b l h) i))
    ]

-- ---- n bytes of a longer list, from one on

pub part_lt : (l : List ℕ) (at n : ℕ) → Bytes l → little_endian (take n (drop at l)) < 2 ^ (8 * n)
part_lt l at n h =
    let part = take n (drop at l) in
    let few : 8 * length part ≤ 8 * n = omega (arith, length-take n (drop at l), min-le_left n (length (drop at l))) in
    lt_of_lt_of_le (little_lt part (bytes_take (drop at l) n (bytes_drop l at h))) (pow_mono few)

pub part_bit : (l : List ℕ) (at n j : ℕ) → Bytes l → j < 8 * n → is_set (little_endian (take n (drop at l))) j ≡ is_set (get_or l (at + j / 8) 0) (j % 8)
part_bit l at n j h k =
    little_bit (take n (drop at l)) (bytes_take (drop at l) n (bytes_drop l at h)) j
    ∙ rw (get_or-take n (drop at l) (j / 8) 0 (omega arith), get_or-drop at l (j / 8) 0)
