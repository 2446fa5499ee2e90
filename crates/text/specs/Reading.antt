-- The sheet language: what a text has at its front, part by part. A text of any other shape is bad.
use Prim.{Unit, tt}
use Rattle.std.specs.Prelude.{ℕ, zero, suc, ◌+◌, ◌*◌, ◌-◌, Bool, false, cond, ◌&&◌, List, [], ◌∷◌, ◌++◌, eqb, leb, ltb, length, drop, get_or}
use Rattle.text.specs.declared.sheet.Head.{Head}
use Rattle.text.specs.Text.{comma, line_end, field_key, curve_key, dimension_key, places_key, message_key}

-- what was read, and the text behind it
pub data Read (A : Type 0) : Type 0 where
  bad : Read A
  got : A → List ℕ → Read A

-- one part, and then what stands behind it
unfoldable pub then : {A B : Type 0} → Read A → (A → List ℕ → Read B) → Read B
then bad next = bad
then (got a s) next = next a s

-- more numbers before those that were read
unfoldable pub before : List ℕ → Read (List ℕ) → Read (List ℕ)
before l bad = bad
before l (got m s) = got (l ++ m) s

-- the text begins with this byte
unfoldable pub is_next : ℕ → List ℕ → Bool
is_next b [] = false
is_next b (a ∷ s) = eqb a b

-- a key, byte for byte
unfoldable pub stripped : List ℕ → List ℕ → Read (Unit {0})
stripped [] s = got tt s
stripped (b ∷ key) s = cond (is_next b s) (stripped key (drop 1 s)) bad

-- a digit, and the value with one digit more
abbrev pub is_digit : ℕ → Bool
is_digit b = leb 48 b && leb b 57

abbrev pub pushed : ℕ → ℕ → ℕ
pushed v b = v * 10 + (b - 48)

-- the digits behind the first, v being the value so far: behind a zero there is none, and the value stays below 65,536
unfoldable pub more : ℕ → List ℕ → Read ℕ
more v [] = got v []
more v (b ∷ s) = let rest = more (pushed v b) s in cond (is_digit b) (cond (eqb v 0) bad (cond (ltb (pushed v b) 65536) rest bad)) (got v (b ∷ s))

-- a number
unfoldable pub number : List ℕ → Read ℕ
number [] = bad
number (b ∷ s) = cond (is_digit b) (more (b - 48) s) bad

-- numbers joined by commas: at least one, and at most so many
unfoldable pub numbers : ℕ → List ℕ → Read (List ℕ)
numbers zero s = bad
numbers (suc most) s = then (number s) (λ v t. cond (is_next comma t) (before (v ∷ []) (numbers most (drop 1 t))) (got (v ∷ []) t))

-- a line: its key, its numbers, and byte 10
unfoldable pub line : List ℕ → ℕ → List ℕ → Read (List ℕ)
line key most s = then (stripped key s) (λ _ t. then (numbers most t) (λ l u. cond (is_next line_end u) (got l (drop 1 u)) bad))

-- a line of exactly so many numbers
unfoldable pub exactly : List ℕ → ℕ → List ℕ → Read (List ℕ)
exactly key count s = then (line key count s) (λ l t. cond (eqb (length l) count) (got l t) bad)

-- the numbers of a sheet
pub record Sheet : Type 0 where
  pub head : Head
  pub places : List ℕ
  pub message : List ℕ

-- the first three lines: field, curve (always five coefficients), dimension
abbrev pub head_of : List ℕ → List ℕ → List ℕ → Head
head_of f c k =
    record { field = get_or f 0 0; g1 = get_or c 0 0; g2 = get_or c 1 0; g3 = get_or c 2 0; g4 = get_or c 3 0; g6 = get_or c 4 0; k = get_or k 0 0 }

unfoldable pub header : List ℕ → Read Head
header s =
    then (exactly field_key 1 s) (λ f t. then (exactly curve_key 5 t) (λ c u. then (exactly dimension_key 1 u) (λ k v. got (head_of f c k) v)))

-- the last two lines, and nothing behind them
unfoldable pub lists : Head → List ℕ → Read Sheet
lists h s =
    then (line places_key 288 s) (λ J t. then (line message_key 288 t)
    (λ msg u. cond (eqb (length u) 0) (got (record { head = h; places = J; message = msg }) []) bad))

-- a sheet: five lines, at most 4,096 bytes
unfoldable pub sheet : List ℕ → Read Sheet
sheet s = cond (leb (length s) 4096) (then (header s) lists) bad
