-- A mask by its 64-bit words: place p is bit (p − 1) mod 64 of word (p − 1) div 64, so what is asked of 64 places at a time is asked of the set bits of one number.
use Prim.Native.Nat.{ℕ, suc, ◌+◌, ◌*◌, ◌-◌, ◌/◌, ◌%◌, ◌^◌, ◌≤◌, ◌<◌}
use mathlib.Core.Path.{◌≡◌, refl, sym, ◌∙◌, ap}
use mathlib.Core.Bool.{Bool, true, false, not, ◌&&◌}
use mathlib.Core.List.{List, ◌++◌, map}
use native.Mathlib.Numerals.{add-one}
use native.Mathlib.Omega.{arith}
use borrow.Author.Tests.{not-true}
use lib.Dec.{eqb}
use lib.Count.{ones}
use lib.ListN.{length, length-append}
use lib.Seq.{sets}
use Rattle.basics.specs.Lists.{all, filter, table}
use Rattle.basics.specs.SetBits.{Bytes, is_set, set_bits}
use Rattle.basics.proofs.Lists.{all_append, all_get, all_table_as, filter_append, filter_table, filter_skip, table_add, table_as, length_table, get_or_table}
use Rattle.basics.proofs.Loops.{filter_table_few, Appended, appended_all}
use Rattle.basics.proofs.LittleEndian.{part_bit}
use Rattle.basics.proofs.SetBits.{clear_from}
use Rattle.bitset.specs.Places.{places_of}
use Rattle.bitset.proofs.Places.{places_many}
use Rattle.code.specs.Heard.{heard_at, heard_places, none_past}
use Rattle.code.specs.Words.{word_of, set_places}

abbrev past : ℕ → ℕ → ℕ
past n i = n + suc i

-- of the m places past n none is heard
abbrev pub silent : (ℕ → Bool) → ℕ → ℕ → Bool
silent heard n m = all (λ p. not (heard p)) (table (past n) m)

pub silent_none : (heard : ℕ → Bool) (n m : ℕ) → m ≤ n → silent heard n (m - n) ≡ true
silent_none heard n m h = let none : m - n ≡ 0 = omega arith in rw none refl

silent_add : (heard : ℕ → Bool) (n a b : ℕ) → silent heard n (a + b) ≡ (silent heard n a && all (λ p. not (heard p)) (table (λ j. past n (a + j)) b))
silent_add heard n a b =
    ap (all (λ p. not (heard p))) (table_add (past n) a b) ∙ all_append (λ p. not (heard p)) (table (past n) a) (table (λ j. past n (a + j)) b)

-- ---- w places at a time, of any width: those after the bth are heard as the bits of x are set

module _ (heard : ℕ → Bool) (b w x : ℕ) (bits : (j : ℕ) → j < w → heard (b + j + 1) ≡ is_set x j) where
  more_places : filter heard (table suc (b + w)) ≡ filter heard (table suc b) ++ map (λ j. b + j + 1) (set_bits w x)
  unfolding set_bits
  more_places =
      ap (filter heard) (table_add suc b w) ∙ filter_append heard (table suc b) (table (λ j. suc (b + j)) w)
      ∙ rw (table_as (λ j. suc (b + j)) (λ j. b + j + 1) w (λ j h. sym (add-one (b + j))), filter_table heard (λ j. b + j + 1) (is_set x) w bits)

  -- none past n up to the last of these, where none is up to the kth
  more_silent : (n k : ℕ) → n ≤ b + k → k ≤ w → x < 2 ^ w → silent heard n (b + w - n) ≡ (silent heard n (b + k - n) && eqb (x / 2 ^ k) 0)
  more_silent n k h l fits =
      let sum : b + w - n ≡ b + k - n + (w - k) = omega arith in
      let rest : (j : ℕ) → j < w - k → not (heard (past n (b + k - n + j))) ≡ not (is_set x (k + j)) =
      λ j g. (let same : past n (b + k - n + j) ≡ b + (k + j) + 1 = omega arith in ap not (ap heard same ∙ bits (k + j) (omega arith))) in
      ap (silent heard n) sum ∙ silent_add heard n (b + k - n) (w - k)
      ∙ ap (λ c. silent heard n (b + k - n) && c)
      (all_table_as (λ p. not (heard p)) (λ j. not (is_set x (k + j))) (λ j. past n (b + k - n + j)) (λ j. j) (w - k) rest ∙ clear_from w k x l fits)

-- ---- of a mask

fewer_places : (mask : List ℕ) (m n : ℕ) → m ≤ n → length (heard_places mask m) ≤ length (heard_places mask n)
fewer_places mask m n h =
    let sum : n ≡ m + (n - m) = omega arith in
    let rest = table (λ j. suc (m + j)) (n - m) in
    omega (
      arith,
      ap (λ r. length (heard_places mask r)) sum ∙ ap (λ l. length (filter (heard_at mask) l)) (table_add suc m (n - m)) ∙ ap length (filter_append (heard_at mask) (table suc m) rest)
          ∙ length-append (heard_places mask m) (filter (heard_at mask) rest),
    )

module _ (mask : List ℕ) (bytes : Bytes mask) (i : ℕ) where
  word_bit : (j : ℕ) → j < 64 → heard_at mask (64 * i + j + 1) ≡ is_set (word_of mask i) j
  word_bit j h =
      let byte : (64 * i + j + 1 - 1) / 8 ≡ 8 * i + j / 8 = omega arith in
      let bit : (64 * i + j + 1 - 1) % 8 ≡ j % 8 = omega arith in
      rw (byte, bit) (sym (part_bit mask (8 * i) 8 j bytes (omega arith)))

  -- the places of one word more
  pub places_more : heard_places mask (64 * (i + 1)) ≡ heard_places mask (64 * i) ++ places_of (64 * i) (word_of mask i)
  unfolding places_of
  places_more =
      let next : 64 * (i + 1) ≡ 64 * i + 64 = omega arith in
      ap (heard_places mask) next ∙ more_places (heard_at mask) (64 * i) 64 (word_of mask i) word_bit

  module _ {x : ℕ} (is_IsWord : x ≡ word_of mask i) (fits : x < 2 ^ 64) where
    count_more : length (heard_places mask (64 * (i + 1))) ≡ length (heard_places mask (64 * i)) + ones x
    count_more =
        ap length places_more ∙ length-append (heard_places mask (64 * i)) (places_of (64 * i) (word_of mask i))
        ∙ rw (← is_IsWord, places_many (64 * i) x fits)

    -- the buffer has room for them
    pub room_more : (room : ℕ) {count : ℕ} → i < 5 → length mask ≡ 40 → length (set_places mask) ≤ room → count ≡ length (heard_places mask (64 * i)) → count + ones x ≤ room
    room_more room h long l e = omega (arith, count_more, fewer_places mask (64 * (i + 1)) (8 * length mask) (omega arith), e)

    -- and then has them
    pub places_appended : {old out after : List ℕ} {count next : ℕ} → count + ones x ≤ length old → next ≡ count + ones x → after ≡ sets out count (places_of (64 * i) x)
        → Appended (heard_places mask (64 * i)) old out count → Appended (heard_places mask (64 * (i + 1))) old after next
    places_appended {count = count} h is-next is-after a =
        let many = places_many (64 * i) x fits in
        rw (is-next, is-after, ← many, places_more, ← is_IsWord) (appended_all (places_of (64 * i) x) (rw many h) a)

  -- the places past n up to the end of this word
  pub silent_more : (n k : ℕ) → n ≤ 64 * i + k → k ≤ 64 → word_of mask i < 2 ^ 64
      → silent (heard_at mask) n (64 * (i + 1) - n) ≡ (silent (heard_at mask) n (64 * i + k - n) && eqb (word_of mask i / 2 ^ k) 0)
  silent_more n k h l fits =
      let next : 64 * (i + 1) ≡ 64 * i + 64 = omega arith in
      ap (λ m. silent (heard_at mask) n (m - n)) next ∙ more_silent (heard_at mask) (64 * i) 64 (word_of mask i) word_bit n k h l fits

-- one of the m places past n is heard
pub not_silent : (mask : List ℕ) (n m : ℕ) → n + m ≤ 320 → silent (heard_at mask) n m ≡ false → none_past mask n ≡ false
not_silent mask n m h e =
    let sum : 320 - n ≡ m + (320 - n - m) = omega arith in
    ap (silent (heard_at mask) n) sum ∙ silent_add (heard_at mask) n m (320 - n - m) ∙ rw e

-- where no bit is set past n, the set bits are those of places up to n
pub set_places_lem : (mask : List ℕ) (n : ℕ) → length mask ≡ 40 → n ≤ 320 → none_past mask n ≡ true → set_places mask ≡ heard_places mask n
set_places_lem mask n long h none = filter_skip (heard_at mask) suc n (8 * length mask) (omega arith) unheard
  where
    unheard : (i : ℕ) → n ≤ i → i < 8 * length mask → heard_at mask (suc i) ≡ false
    unheard i g l =
        let inside : i - n < 320 - n = omega arith in
        let here : past n (i - n) ≡ suc i = omega arith in
        let passed = all_get (λ p. not (heard_at mask p)) (table (past n) (320 - n)) 0 (i - n) none (rw (length_table (past n) (320 - n)) inside) in
        not-true _ (rw (get_or_table (past n) (320 - n) (i - n) 0 inside, here) at passed)

-- so there is room for them
pub set_places_few : (mask : List ℕ) (n : ℕ) → length mask ≡ 40 → n ≤ 288 → none_past mask n ≡ true → length (set_places mask) ≤ 288
set_places_few mask n long h none = omega (arith, ap length (set_places_lem mask n long (omega arith) none), filter_table_few (heard_at mask) suc n)
