-- Reading what is written gives it back: numbers, lists, lines, and the whole sheet.
use Prim.{tt}
use Prim.Native.Nat.{ℕ, zero, suc, ◌+◌, ◌*◌, ◌-◌, ◌/◌, ◌%◌, ◌≤◌, ◌<◌}
use mathlib.Core.Bool.{Bool, true, false, cond}
use mathlib.Core.Path.{◌≡◌, refl, sym, ◌∙◌, ap}
use mathlib.Core.List.{List, [], ◌∷◌, ◌++◌, append_assoc, append-nil}
use native.Mathlib.Omega.{arith}
use borrow.Author.Tests.{lt-ltb, le-leb, ltb-true, ltb-false, eq-eqb, ne_eqb}
use lib.Dec.{ltb}
use lib.ListN.{length}
use Rattle.basics.specs.Lists.{all}
use Rattle.basics.proofs.Lists.{both}
use Rattle.text.specs.Text.{comma, line_end, field_key, curve_key, dimension_key, places_key, message_key, digits, decimal, following, joined, line_of}
use Rattle.text.specs.Reading.{got, then, before, is_next, stripped, is_digit, more, number, numbers, line, exactly, Sheet, sheet}
use Rattle.text.specs.Valid.{sheet_text}
use Rattle.text.specs.Valid.{is_number, Numbers, Valid}
use Rattle.text.proofs.Lines.{whole_line, right_count_lem}
use Rattle.text.proofs.Sheets.{whole_header, all_read, as_lists}

-- ---- a number

-- 10 to the power of so many digits
unfoldable pub bound : ℕ → ℕ
bound zero = 1
bound (suc most) = 10 * bound most

is_digit_lem : (d : ℕ) → d < 10 → is_digit (48 + d) ≡ true
is_digit_lem d h = let a : 48 ≤ 48 + d = omega arith in let b : 48 + d ≤ 57 = omega arith in rw (le-leb 48 (48 + d) a, le-leb (48 + d) 57 b)

-- one digit more
push : (n : ℕ) (t : List ℕ) → 10 ≤ n → n < 65536 → more (n / 10) ((48 + n % 10) ∷ t) ≡ more n t
unfolding more
push n t h k =
    let d : n % 10 < 10 = omega arith in
    let e : n / 10 * 10 + (48 + n % 10 - 48) ≡ n = omega arith in
    let z : n / 10 ≡ 0 → ⊥ = λ q. omega arith in
    rw (is_digit_lem (n % 10) d, ne_eqb (n / 10) 0 z, e, lt-ltb n 65536 k)

digits_read : (most n : ℕ) (t : List ℕ) → n < bound (suc most) → n < 65536 → number (digits (suc most) n ++ t) ≡ more n t
unfolding digits number bound
digits_read zero n t h k =
    let l : n < 10 = omega arith in
    let e : 48 + n - 48 ≡ n = omega arith in
    rw (lt-ltb n 10 l, is_digit_lem n l, e)
digits_read (suc most) n t h k = by (ltb n 10) refl (digits_read most (n / 10) ((48 + n % 10) ∷ t))
  where
    by : (b : Bool) → ltb n 10 ≡ b → (n / 10 < bound (suc most) → n / 10 < 65536 → number (digits (suc most) (n / 10) ++ (48 + n % 10) ∷ t) ≡ more (n / 10) ((48 + n % 10) ∷ t)) → number (cond (ltb n 10) ((48 + n) ∷ []) (digits (suc most) (n / 10) ++ (48 + n % 10) ∷ []) ++ t) ≡ more n t
    by true q rec =
        let l = ltb-true n 10 q in
        let e : 48 + n - 48 ≡ n = omega arith in
        rw (q, is_digit_lem n l, e)
    by false q rec =
        let l = ltb-false n 10 q in
        rw (q, append_assoc (digits (suc most) (n / 10)) ((48 + n % 10) ∷ []) t) (rec (omega arith) (omega arith) ∙ push n t l k)

-- a number before a comma or a line end
pub number_read : (n : ℕ) (t : List ℕ) → n < 65536 → number (decimal n ++ t) ≡ more n t
unfolding bound
number_read n t k = digits_read 4 n t (omega arith) k

-- ---- a list

pub numbers_read : (l : List ℕ) (most a : ℕ) (u : List ℕ) → length l ≤ most → a < 65536 → all is_number l ≡ true → numbers (suc most) (decimal a ++ (following l ++ line_end ∷ u)) ≡ got (a ∷ l) (line_end ∷ u)
unfolding numbers following then before more is_next
numbers_read [] most a u h k e = rw (number_read a (line_end ∷ u) k)
numbers_read (b ∷ l) zero a u h k e = absurd (omega arith)
numbers_read (b ∷ l) (suc most) a u h k e =
    let t = both (is_number b) (all is_number l) e in
    rw (number_read a (comma ∷ ((decimal b ++ following l) ++ line_end ∷ u)) k, append_assoc (decimal b) (following l) (line_end ∷ u), numbers_read l most b u (omega arith) (ltb-true b 65536 t.0) t.1)

-- ---- a line

key_read : (key t : List ℕ) → stripped key (key ++ t) ≡ got tt t
unfolding stripped is_next
key_read [] t = refl
key_read (b ∷ key) t = rw (eq-eqb b b refl) (key_read key t)

list_read : (most : ℕ) (l u : List ℕ) → Numbers most l → numbers most (joined l ++ line_end ∷ u) ≡ got l (line_end ∷ u)
unfolding joined
list_read most [] u v = absurd (let h = v.some in omega arith)
list_read zero (a ∷ l) u v = absurd (let h = v.few in omega arith)
list_read (suc most) (a ∷ l) u v =
    let t = both (is_number a) (all is_number l) v.are in
    rw (append_assoc (decimal a) (following l) (line_end ∷ u)) (numbers_read l most a u (let h = v.few in omega arith) (ltb-true a 65536 t.0) t.1)

pub line_read : (key : List ℕ) (most : ℕ) (l u : List ℕ) → Numbers most l → line key most (line_of key l ++ u) ≡ got l u
unfolding line_of is_next
line_read key most l u v =
    rw (append_assoc key (joined l ++ line_end ∷ []) u, append_assoc (joined l) (line_end ∷ []) u)
    (sym (whole_line key most (key ++ (joined l ++ line_end ∷ u)) _ (key_read key (joined l ++ line_end ∷ u)) l (line_end ∷ u) (list_read most l u v) refl))

pub exactly_read : (key : List ℕ) (l u : List ℕ) → Numbers (length l) l → exactly key (length l) (line_of key l ++ u) ≡ got l u
exactly_read key l u v = sym (right_count_lem key (length l) (line_of key l ++ u) l u (line_read key (length l) l u v) refl)

-- ---- a sheet: so no two jobs have one sheet

pub read_back : (job : Sheet) → Valid job → sheet (sheet_text job) ≡ got job []
unfolding sheet_text
read_back job v =
    let h = job.head in
    let a₅ = line_of message_key job.message in
    let a₄ = line_of places_key job.places ++ a₅ in
    let top = sym (whole_header (sheet_text job) _ _ (exactly_read field_key (h.field ∷ []) _ v.field) _ _ (exactly_read curve_key (h.g1 ∷ h.g2 ∷ h.g3 ∷ h.g4 ∷ h.g6 ∷ []) _ v.curve)
    _ _ (exactly_read dimension_key (h.k ∷ []) a₄ v.dimension)) in
    sym (as_lists (sheet_text job) v.short _ a₄ top)
    ∙ sym (all_read a₄ h _ _ (line_read places_key 288 job.places a₅ v.places) _ []
    (ap (line message_key 288) (sym (append-nil a₅)) ∙ line_read message_key 288 job.message [] v.message) refl)
