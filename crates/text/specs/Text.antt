-- The text of a sheet and of an answer: lines of a key and of numbers, as bytes.
use Rattle.std.specs.Prelude.{ℕ, zero, suc, ◌+◌, ◌/◌, ◌%◌, cond, List, [], ◌∷◌, ◌++◌, ltb}
use Prim.Native.Char.{code}
use Prim.Native.String.{String, [] as []ₛ, ◌∷◌ as ◌∷ₛ◌}

-- the bytes of a text in ASCII
abbrev pub bytes : String → List ℕ
bytes []ₛ = []
bytes (c ∷ₛ s) = code c ∷ bytes s

abbrev pub comma : ℕ
comma = 44

abbrev pub line_end : ℕ
line_end = 10

-- the keys, and those of the answer
abbrev pub field_key : List ℕ
field_key = bytes "field="

abbrev pub curve_key : List ℕ
curve_key = bytes "curve="

abbrev pub dimension_key : List ℕ
dimension_key = bytes "dimension="

abbrev pub places_key : List ℕ
places_key = bytes "places="

abbrev pub message_key : List ℕ
message_key = bytes "message="

abbrev pub answer_key : List ℕ
answer_key = bytes "answer="

abbrev pub function_key : List ℕ
function_key = bytes "function="

abbrev pub word_key : List ℕ
word_key = bytes "word="

-- the last digits of n, as many as it has and at most so many; the digit 0 is byte 48
unfoldable pub digits : ℕ → ℕ → List ℕ
digits zero n = []
digits (suc most) n = cond (ltb n 10) ((48 + n) ∷ []) (digits most (n / 10) ++ (48 + n % 10) ∷ [])

-- a number below 100,000, without needless zeros
abbrev pub decimal : ℕ → List ℕ
decimal n = digits 5 n

-- numbers joined by commas
unfoldable pub following : List ℕ → List ℕ
following [] = []
following (a ∷ l) = comma ∷ (decimal a ++ following l)

unfoldable pub joined : List ℕ → List ℕ
joined [] = []
joined (a ∷ l) = decimal a ++ following l

-- a line: its key, its numbers, and byte 10
unfoldable pub line_of : List ℕ → List ℕ → List ℕ
line_of key l = key ++ (joined l ++ line_end ∷ [])
