-- Numbers in bytes, and back: laws over the width and the list, for the loops that load and store, and for the state in 64 bytes.
use Prim.Native.Nat.{ℕ, zero, suc, ◌+◌, ◌*◌, ◌-◌, ◌/◌, ◌%◌, ◌^◌, ◌≤◌, ◌<◌}
use mathlib.Core.Bool.{true}
use mathlib.Core.Path.{◌≡◌, refl, sym, ◌∙◌, ap}
use mathlib.Core.List.{List, [], ◌∷◌, ◌++◌, append_assoc, append-nil}
use native.Mathlib.Nat.{mul-zero, mul-suc, mul-one, mul-add, add_comm, lt_of_lt_of_le}
use native.Mathlib.Numerals.{add-one}
use native.Mathlib.Omega.{arith}
use borrow.Rule.Slice.PartMut.{mid_of, put_mid, same_len_mid}
use borrow.Author.Tests.{ltb-true, lt-ltb}
use lib.Dec.{ltb}
use lib.IntN.{ℤ}
use lib.ListN.{length, get_or, take, drop, set, length-append, length-drop, drop_of_length-le, take-append-drop}
use lib.Pow.{pow_mono, shr_lt, high, low}
use lib.Seq.{length-take-le, take_at, drop_at, drop-drop, drop-cons, take-suc, take_all, take-add, length_front}
use Rattle.basics.specs.Lists.{all, Holds}
use Rattle.basics.specs.SetBits.{Bytes, little_endian}
use Rattle.basics.proofs.Lists.{all_get, is_table, length_table, part_length, extended, lent, holds_as}
use Rattle.basics.proofs.Loops.{next, stored}
use Rattle.basics.proofs.LittleEndian.{bytes_drop, part_lt}
use Rattle.rolling.specs.declared.state.RollingState.{RollingState}
use Rattle.rolling.specs.State.{state_of, held, advanced}
use Rattle.rolling.specs.Bytes.{bytes_of, in_bytes, numbers, state_bytes, state_from}

-- ---- one number

pub length_bytes : (n x : ℕ) → length (bytes_of n x) ≡ n
unfolding bytes_of
length_bytes zero x = refl
length_bytes (suc n) x = ap suc (length_bytes n (x / 2 ^ 8))

pub little_bytes : (n x : ℕ) → x < 2 ^ (8 * n) → little_endian (bytes_of n x) ≡ x
unfolding bytes_of little_endian
little_bytes zero x h = omega arith
little_bytes (suc n) x h = rw (little_bytes n (x / 2 ^ 8) (shr_lt (8 * n) 8 (rw mul-suc at h))) (omega arith)

pub bytes_little : (n : ℕ) (l : List ℕ) → Bytes l → n ≤ length l → bytes_of n (little_endian (take n l)) ≡ take n l
unfolding bytes_of little_endian
bytes_little zero l h k = refl
bytes_little (suc n) [] h k = absurd (omega arith)
bytes_little (suc n) (b ∷ l) h k =
    let rest = little_endian (take n l) in
    rw (high rest 8 (h 0), low rest 8 (h 0)) (ap (λ t. b ∷ t) (bytes_little n l (λ i. h (suc i)) (omega arith)))

-- ---- numbers one after the other

-- the ith number of n bytes
abbrev pub number_at : ℕ → List ℕ → ℕ → ℕ
number_at n b i = little_endian (take n (drop (n * i) b))

pub length_in : (n : ℕ) (xs : List ℕ) → length (in_bytes n xs) ≡ n * length xs
unfolding in_bytes
length_in n [] = sym (mul-zero n)
length_in n (x ∷ xs) = rw (length-append (bytes_of n x) (in_bytes n xs), length_bytes n x, length_in n xs, mul-suc n (length xs)) (add_comm n _)

in_append : (n : ℕ) (xs ys : List ℕ) → in_bytes n (xs ++ ys) ≡ in_bytes n xs ++ in_bytes n ys
unfolding in_bytes
in_append n [] ys = refl
in_append n (x ∷ xs) ys = rw (in_append n xs ys) (sym (append_assoc (bytes_of n x) (in_bytes n xs) (in_bytes n ys)))

pub number_in : (n : ℕ) (xs rest : List ℕ) (i : ℕ) → i < length xs → get_or xs i 0 < 2 ^ (8 * n) → number_at n (in_bytes n xs ++ rest) i ≡ get_or xs i 0
unfolding in_bytes
number_in n [] rest i k h = absurd (omega arith)
number_in n (x ∷ xs) rest zero k h =
    rw (mul-zero, append_assoc (bytes_of n x) (in_bytes n xs) rest, take_at (bytes_of n x) (in_bytes n xs ++ rest) n (length_bytes n x)) (little_bytes n x h)
number_in n (x ∷ xs) rest (suc i) k h =
    let others = in_bytes n xs ++ rest in
    rw (mul-suc, add_comm (n * i) n, ← drop-drop (n * i) n, append_assoc (bytes_of n x) (in_bytes n xs) rest, drop_at (bytes_of n x) others n (length_bytes n x))
    (number_in n xs rest i (omega arith) h)

pub numbers_in : (n : ℕ) (xs rest : List ℕ) → all (λ x. ltb x (2 ^ (8 * n))) xs ≡ true → numbers n (length xs) (in_bytes n xs ++ rest) ≡ xs
unfolding numbers
numbers_in n xs rest e = sym (is_table _ xs 0 (λ i k. sym (number_in n xs rest i k (ltb-true _ _ (all_get (λ x. ltb x (2 ^ (8 * n))) xs 0 i e k)))))

pub in_numbers : (n k : ℕ) (b : List ℕ) → Bytes b → n * k ≤ length b → in_bytes n (numbers n k b) ≡ take (n * k) b
unfolding numbers in_bytes
in_numbers n zero b h l = rw mul-zero
in_numbers n (suc k) b h l =
    let room : n * k + n ≤ length b = rw mul-suc at l in
    in_append n (numbers n k b) (number_at n b k ∷ [])
    ∙ rw (in_numbers n k b h (omega arith), bytes_little n (drop (n * k) b) (bytes_drop b (n * k) h) (rw length-drop (omega arith)), append-nil, mul-suc n k)
    (sym (take-add (n * k) n b))

-- ---- the loops

-- x is the number in the bytes from the jth on, of the width bytes at an index
abbrev pub Read : List ℕ → ℕ → ℕ → ℕ → ℕ → Type 0
Read l at width j x = x ≡ little_endian (take (width - j) (drop (at + j) l))

-- the byte before them comes in below, and there is room for it
pub byte_below : (l : List ℕ) (at width j : ℕ) {x : ℕ} → Bytes l → (at + width ≤ length l) × (width ≤ 8) → 0 < j → j ≤ width → Read l at width j x
    → let y = 256 * x + get_or l (at + (j - 1)) 0 in Read l at width (j - 1) y × (y < 2 ^ 64)
unfolding little_endian
byte_below l at width j {x} h room some few is_x =
    let i = at + (j - 1) in
    let n = width - (j - 1) in
    let one_more : n ≡ suc (width - j) = omega arith in
    let on : at + j ≡ suc i = omega arith in
    let grown : Read l at width (j - 1) (256 * x + get_or l i 0) = rw (is_x, one_more, on, drop-cons l i 0 (omega arith)) (omega arith) in
    let most : 8 * n ≤ 64 = omega arith in
    (grown, rw grown (lt_of_lt_of_le (part_lt l i n h) (pow_mono most)))

-- a byte is stored, and the rest of the number belongs behind it
pub byte_stored : (out : List ℕ) (j rest : ℕ) {b : List ℕ} → j < length out → take j out ++ bytes_of (length (drop j out)) rest ≡ b
    → take (j + 1) (set out j (rest % 256)) ++ bytes_of (length (drop (j + 1) (set out j (rest % 256)))) (rest / 256) ≡ b
unfolding bytes_of
byte_stored out j rest h e = stored (λ d. bytes_of (length d) (rest / 256)) out j (rest % 256) h ∙ rw (next out 0 j h) at e

pub bytes_end : (out : List ℕ) (j rest : ℕ) {b : List ℕ} → length out ≤ j → take j out ++ bytes_of (length (drop j out)) rest ≡ b → out ≡ b
unfolding bytes_of
bytes_end out j rest h e = sym (append-nil out) ∙ rw (take_all j out h, drop_of_length-le out h) at e

-- a number is stored in the part from a to m: the list keeps its length, and the number stands behind what the list holds already
module _ (l : List ℕ) {z : List ℕ} (a m x : ℕ) (is-z : z ≡ bytes_of (length (mid_of a (m - a) l)) x) where
  long : length z ≡ length (mid_of a (m - a) l)
  long = ap length is-z ∙ length_bytes _ _

  pub stored_size : length (put_mid a (m - a) l z) ≡ length l
  stored_size = same_len_mid a (m - a) l z long

  pub stored_behind : {f : List ℕ} → Holds l a f → a ≤ m → m ≤ length l → Holds (put_mid a (m - a) l z) m (f ++ bytes_of (m - a) x)
  stored_behind h k r =
      record {
        within = rw stored_size r;
        first = extended l z _ a m k r long ∙ rw (h.first, is-z, part_length l a (m - a) (omega arith));
      }

-- the ith number is stored, behind those before it
pub number_stored : (n : ℕ) (xs l : List ℕ) (i x : ℕ) {z : List ℕ} → i < length xs → n * i + n ≤ length l
    → z ≡ bytes_of (length (mid_of (n * i) (n * i + n - n * i) l)) x → x ≡ get_or xs i 0
    → Holds l (n * i) (in_bytes n (take i xs)) → Holds (put_mid (n * i) (n * i + n - n * i) l z) (n * (i + 1)) (in_bytes n (take (i + 1) xs))
unfolding in_bytes
number_stored n xs l i x h k is-z is_x e =
    let size : n * i + n - n * i ≡ n = omega arith in
    let behind = stored_behind l (n * i) (n * i + n) x is-z e (omega arith) k in
    rw (mul-add n i 1, mul-one) (holds_as behind (rw (add-one, take-suc xs i 0 h, in_append n (take i xs), append-nil, is_x, size)))

pub held_all : {l f : List ℕ} {n : ℕ} → Holds l n f → length l ≤ n → l ≡ f
held_all {l} {f} {n} h k = sym (take_all n l k) ∙ h.first

-- ---- the state

pub length_state : (s : RollingState) → length s.codes ≡ 24 → length (state_bytes s) ≡ 64
unfolding state_bytes
length_state s e = length-append (in_bytes 2 s.codes) _ ∙ rw (length_in 2 s.codes, length_in 8 (s.next ∷ s.spare ∷ []), e)

pub fresh_length : length (state_of []).codes ≡ 24
unfolding held
fresh_length = refl

pub advanced_length : (b : List ℕ) (n : ℕ) (z : ℤ) → length (advanced (state_from b) n z).codes ≡ 24
unfolding advanced state_from numbers
advanced_length b n z = ap suc (length-take-le 23 (numbers 2 24 b) (omega (arith, length_table (number_at 2 b) 24)))

-- the codes are stored, then the next hour, then the spare number
module _ (s : RollingState) (out z₁ z₂ z₃ : List ℕ) where
  abbrev with_codes : List ℕ
  with_codes = z₁ ++ drop 48 out

  abbrev with_next : List ℕ
  with_next = put_mid 48 8 with_codes z₂

  pub state_stored : length out ≡ 64 → length z₁ ≡ length (take 48 out) → z₁ ≡ in_bytes 2 s.codes → z₂ ≡ bytes_of (length (mid_of 48 8 with_codes)) s.next
      → z₃ ≡ bytes_of (length (mid_of 56 (length with_next - 56) with_next)) s.spare → put_mid 56 (length with_next - 56) with_next z₃ ≡ state_bytes s
  unfolding state_bytes in_bytes
  state_stored e k is-z₁ is-z₂ is-z₃ =
      let size₁ : length with_codes ≡ 64 = length_front out z₁ 48 k ∙ e in
      let size₂ : length with_next ≡ 64 = stored_size with_codes 48 56 s.next is-z₂ ∙ size₁ in
      let front₁ = lent out z₁ 48 (in_bytes 2 s.codes) (omega arith) k is-z₁ in
      let front₂ = stored_behind with_codes 48 56 s.next is-z₂ front₁ (omega arith) (omega arith) in
      let front₃ = stored_behind with_next 56 (length with_next) s.spare is-z₃ front₂ (omega arith) (omega arith) in
      held_all front₃ (omega (arith, stored_size with_next 56 (length with_next) s.spare is-z₃)) ∙ rw (size₂, append_assoc, append-nil)

-- the two numbers behind the codes
last_two : (b : List ℕ) → numbers 8 2 (drop 48 b) ≡ (state_from b).next ∷ (state_from b).spare ∷ []
unfolding numbers state_from
last_two b = rw (drop-drop 8 48 b)

pub same_bytes : (b : List ℕ) → Bytes b → length b ≡ 64 → state_bytes (state_from b) ≡ b
unfolding state_bytes state_from
same_bytes b h e =
    let behind = drop 48 b in
    let size : length behind ≡ 16 = rw (length-drop, e) in
    rw (← last_two b, in_numbers 2 24 b h (omega arith), in_numbers 8 2 behind (bytes_drop b 48 h) (omega arith), take_all 16 behind (omega arith))
    (take-append-drop 48 b)

pub same_state : (s : RollingState) → length s.codes ≡ 24 → all (λ c. ltb c (2 ^ 16)) s.codes ≡ true → s.next < 2 ^ 64 → s.spare < 2 ^ 64
    → state_from (state_bytes s) ≡ s
unfolding state_bytes state_from
same_state s e codes next spare =
    let two = s.next ∷ s.spare ∷ [] in
    let back = state_from (state_bytes s) in
    let behind : drop 48 (state_bytes s) ≡ in_bytes 8 two = drop_at (in_bytes 2 s.codes) (in_bytes 8 two) 48 (length_in 2 s.codes ∙ rw e) in
    let are : all (λ x. ltb x (2 ^ 64)) two ≡ true = rw (lt-ltb _ _ next, lt-ltb _ _ spare) in
    let read : back.next ∷ back.spare ∷ [] ≡ two = sym (last_two (state_bytes s)) ∙ rw (behind, ← append-nil (in_bytes 8 two)) (numbers_in 8 two [] are) in
    let read-codes : back.codes ≡ s.codes = ap (λ k. numbers 2 k (state_bytes s)) (sym e) ∙ numbers_in 2 s.codes (in_bytes 8 two) codes in
    rw (read-codes, ap (λ l. get_or l 0 0) read, ap (λ l. get_or l 1 0) read)
