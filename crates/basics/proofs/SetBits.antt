-- The set bits of a number, bit by bit from the lowest: by halving, the trailing zeros are the lowest of them, clearing that one leaves the others, and they are as many as the ones.
use Prim.Native.Nat.{ℕ, zero, suc, ◌+◌, ◌*◌, ◌-◌, ◌/◌, ◌%◌, ◌^◌, ◌≤◌, ◌<◌}
use mathlib.Core.Bool.{true, cond, not}
use mathlib.Core.Path.{◌≡◌, refl, sym, ◌∙◌, ap, subst}
use mathlib.Core.List.{List, [], ◌∷◌, map}
use native.Mathlib.Nat.{zero-add, add-zero, zero-div, div-one, pow-suc, zero-min, min-zero}
use native.Mathlib.Numerals.{one-add}
use native.Mathlib.Omega.{arith}
use lib.Bits.{and_step, and_self, and_le_r}
use lib.Count.{ones, count_trailing_zeros, ones_step, ones-le}
use lib.Dec.{eqb, eqb-suc-zero}
use lib.ListN.{length, length-map}
use lib.Pow.{pow_pos, shr-shr, shr_lt}
use Rattle.basics.specs.Lists.{all, filter, table}
use Rattle.basics.specs.SetBits.{is_set, set_bits, clear_lowest, found_in, Finds}
use Rattle.basics.proofs.Lists.{all_table, all_table_as, table_front, filter_table}
use Rattle.basics.proofs.Loops.{all_table_fails}

-- ---- by halves

even_low : (h : ℕ) → h * 2 % 2 ≡ 0
even_low h = omega arith

even_half : (h : ℕ) → h * 2 / 2 ≡ h
even_half h = omega arith

odd_low : (h : ℕ) → (h * 2 + 1) % 2 ≡ 1
odd_low h = omega arith

odd_half : (h : ℕ) → (h * 2 + 1) / 2 ≡ h
odd_half h = omega arith

-- a number is twice its half, or one more
by_halves : (P : ℕ → Type 0) → ((h : ℕ) → P (h * 2)) → ((h : ℕ) → P (h * 2 + 1)) → (x : ℕ) → P x
by_halves P even odd x = go (x % 2) refl
  where
    go : (b : ℕ) → x % 2 ≡ b → P x
    go zero e = let same : x / 2 * 2 ≡ x = omega arith in subst P same (even (x / 2))
    go (suc zero) e = let same : x / 2 * 2 + 1 ≡ x = omega arith in subst P same (odd (x / 2))
    go (suc (suc b)) e = absurd (omega arith)

up : (x i : ℕ) → is_set x (suc i) ≡ is_set (x / 2) i
up x i = rw (← one-add i, ← shr-shr x 1 i)

-- the lowest bit, and those of the half
set_bits_half : (w x : ℕ) → set_bits (suc w) x ≡ cond (eqb (x % 2) 1) (0 ∷ map suc (set_bits w (x / 2))) (map suc (set_bits w (x / 2)))
unfolding set_bits
set_bits_half w x = ap (filter (is_set x)) (table_front (λ i. i) w) ∙ rw (filter_table (is_set x) suc (is_set (x / 2)) w (λ i h. up x i), div-one)

set_bits_even : (w h : ℕ) → set_bits (suc w) (h * 2) ≡ map suc (set_bits w h)
set_bits_even w h = set_bits_half w (h * 2) ∙ rw (even_low h, even_half h)

set_bits_odd : (w h : ℕ) → set_bits (suc w) (h * 2 + 1) ≡ 0 ∷ map suc (set_bits w h)
set_bits_odd w h = set_bits_half w (h * 2 + 1) ∙ rw (odd_low h, odd_half h)

-- ---- as many as the ones

ones_even : (h : ℕ) → ones (h * 2) ≡ ones h
ones_even h = ones_step (h * 2) ∙ rw (even_low h, even_half h) (zero-add (ones h))

ones_odd : (h : ℕ) → ones (h * 2 + 1) ≡ suc (ones h)
ones_odd h = ones_step (h * 2 + 1) ∙ rw (odd_low h, odd_half h) (one-add (ones h))

half_lt : (w h : ℕ) {x : ℕ} → h * 2 ≤ x → x < 2 ^ suc w → h < 2 ^ w
half_lt w h l k = omega (arith, pow-suc 2 w)

set_bits_many : (w x : ℕ) → x < 2 ^ w → length (set_bits w x) ≡ ones x
unfolding ones set_bits
set_bits_many zero zero l = refl
set_bits_many zero (suc x) l = absurd (omega arith)
set_bits_many (suc w) x l =
    by_halves (λ x. x < 2 ^ suc w → length (set_bits (suc w) x) ≡ ones x)
    (λ h k. ap length (set_bits_even w h) ∙ length-map (set_bits w h) suc ∙ set_bits_many w h (half_lt w h (omega arith) k) ∙ sym (ones_even h))
    (λ h k. ap length (set_bits_odd w h) ∙ ap suc (length-map (set_bits w h) suc ∙ set_bits_many w h (half_lt w h (omega arith) k)) ∙ sym (ones_odd h))
    x
    l

-- ---- the lowest

even_trailing : (w h : ℕ) → count_trailing_zeros (suc w) (h * 2) ≡ suc (count_trailing_zeros w h)
unfolding count_trailing_zeros
even_trailing w h = rw (even_low h, even_half h)

odd_trailing : (w h : ℕ) → count_trailing_zeros (suc w) (h * 2 + 1) ≡ 0
unfolding count_trailing_zeros
odd_trailing w h = rw (odd_low h)

even_cleared : (h : ℕ) → (h ≡ 0 → ⊥) → clear_lowest (h * 2) ≡ clear_lowest h * 2
even_cleared h n =
    let half-less : (h * 2 - 1) / 2 ≡ h - 1 = omega arith in
    and_step (h * 2) (h * 2 - 1) ∙ rw (even_half h, half-less, even_low h, zero-min) (add-zero (clear_lowest h * 2))

odd_cleared : (h : ℕ) → clear_lowest (h * 2 + 1) ≡ h * 2
odd_cleared h =
    let less : h * 2 + 1 - 1 ≡ h * 2 = omega arith in
    and_step (h * 2 + 1) (h * 2 + 1 - 1) ∙ rw (less, odd_half h, even_half h, even_low h, and_self, min-zero) (add-zero (h * 2))

-- the trailing zeros are the lowest set bit, and the others are those that are left when it is cleared
pub set_bits_lowest : (w x : ℕ) → x < 2 ^ w → (x ≡ 0 → ⊥) → set_bits w x ≡ count_trailing_zeros w x ∷ set_bits w (clear_lowest x)
set_bits_lowest zero x l n = absurd (n (omega arith))
set_bits_lowest (suc w) x l n =
    by_halves (λ x. x < 2 ^ suc w → (x ≡ 0 → ⊥) → set_bits (suc w) x ≡ count_trailing_zeros (suc w) x ∷ set_bits (suc w) (clear_lowest x))
    (λ h k m.
    let nz : h ≡ 0 → ⊥ = λ e. m (rw e) in
    set_bits_even w h ∙ ap (map suc) (set_bits_lowest w h (half_lt w h (omega arith) k) nz)
    ∙ rw (even_trailing w h, even_cleared h nz, set_bits_even w (clear_lowest h)))
    (λ h k m. set_bits_odd w h ∙ rw (odd_trailing w h, odd_cleared h, set_bits_even w h))
    x
    l
    n

-- so there is one fewer
pub ones_cleared : (w x : ℕ) → x < 2 ^ w → (x ≡ 0 → ⊥) → ones x ≡ suc (ones (clear_lowest x))
ones_cleared w x l n =
    let less : clear_lowest x < 2 ^ w = omega (arith, and_le_r x (x - 1)) in
    sym (set_bits_many w x l) ∙ ap length (set_bits_lowest w x l n) ∙ ap suc (set_bits_many w (clear_lowest x) less)

-- ---- the places found

empty : {A : Type 0} (l : List A) → length l ≤ 0 → l ≡ []
empty [] h = refl
empty (a ∷ l) h = absurd (omega arith)

pub set_bits_none : (w : ℕ) → set_bits w 0 ≡ []
unfolding ones
set_bits_none w = empty (set_bits w 0) (omega (arith, set_bits_many w 0 (pow_pos w)))

found_set : (w steps x : ℕ) → x < 2 ^ w → ones x ≤ steps → found_in w steps x ≡ set_bits w x
unfolding found_in
found_set w zero x l few = sym (empty (set_bits w x) (omega (arith, set_bits_many w x l)))
found_set w (suc steps) zero l few = sym (set_bits_none w)
found_set w (suc steps) (suc x) l few =
    let some : suc x ≡ 0 → ⊥ = λ e. omega arith in
    let less : clear_lowest (suc x) < 2 ^ w = omega (arith, and_le_r (suc x) (suc x - 1)) in
    rw (eqb-suc-zero x, found_set w steps (clear_lowest (suc x)) less (omega (arith, ones_cleared w (suc x) l some))) (sym (set_bits_lowest w (suc x) l some))

-- for every number of w bits
pub finds : (w x : ℕ) → x < 2 ^ w → Finds w x
finds w x l =
    let e = found_set w w x l (ones-le w x l) in
    record { all_set = e; as_many = ap length e ∙ set_bits_many w x l }

-- ---- no bit from one on

some_set : (w x : ℕ) → x < 2 ^ w → (x ≡ 0 → ⊥) → (j : ℕ) × (j < w) × (is_set x j ≡ true)
some_set zero x l n = absurd (n (omega arith))
some_set (suc w) x l n =
    by_halves (λ x. x < 2 ^ suc w → (x ≡ 0 → ⊥) → (j : ℕ) × (j < suc w) × (is_set x j ≡ true))
    (λ h k m.
    let (j, b, e) = some_set w h (half_lt w h (omega arith) k) (λ z. m (rw z)) in
    (suc j, omega arith, up (h * 2) j ∙ rw (even_half h) e))
    (λ h k m. (0, omega arith, rw (div-one, odd_low h)))
    x
    l
    n

all_clear : (w x : ℕ) → x < 2 ^ w → all (λ j. not (is_set x j)) (table (λ j. j) w) ≡ eqb x 0
all_clear w zero l = all_table (λ j. not (is_set 0 j)) (λ j. j) w (λ j h. rw (zero-div (2 ^ j)))
all_clear w (suc x) l =
    let (j, h, e) = some_set w (suc x) l (λ z. omega arith) in
    all_table_fails (λ j. not (is_set (suc x) j)) (λ j. j) w j h (ap not e) ∙ sym (eqb-suc-zero x)

-- a number of w bits has none from bit k on exactly if nothing is left of it when it is shifted right by k
pub clear_from : (w k x : ℕ) → k ≤ w → x < 2 ^ w → all (λ j. not (is_set x (k + j))) (table (λ j. j) (w - k)) ≡ eqb (x / 2 ^ k) 0
clear_from w k x h l =
    let all-bits : w ≡ w - k + k = omega arith in
    all_table_as (λ j. not (is_set x (k + j))) (λ j. not (is_set (x / 2 ^ k) j)) (λ j. j) (λ j. j) (w - k) (λ j i. rw (← shr-shr x k j))
    ∙ all_clear (w - k) (x / 2 ^ k) (shr_lt (w - k) k (subst (λ v. x < 2 ^ v) all-bits l))
