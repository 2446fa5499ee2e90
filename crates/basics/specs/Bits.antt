-- Numbers as lists of bits, the high bit first.
use Rattle.std.specs.Prelude.{ℕ, zero, suc, ◌+◌, ◌*◌, ◌/◌, ◌%◌, ◌^◌, Bool, List, [], ◌∷◌, ◌++◌, eqb, ltb, length, take, drop}

-- the low n bits of x
unfoldable pub bits : ℕ → ℕ → List ℕ
bits zero x = []
bits (suc n) x = (x / 2 ^ n % 2) ∷ bits n x

-- the number that bits stand for
unfoldable pub value : List ℕ → ℕ
value [] = 0
value (b ∷ s) = b * 2 ^ length s + value s

-- words of w bits, one after the other
unfoldable pub join : ℕ → List ℕ → List ℕ
join w [] = []
join w (x ∷ xs) = bits w x ++ join w xs

-- the ith word of w bits
unfoldable pub word : ℕ → List ℕ → ℕ → ℕ
word w s i = value (take w (drop (w * i) s))

-- w bits are enough for x
abbrev pub is_word : ℕ → ℕ → Bool
is_word w x = ltb x (2 ^ w)

abbrev pub is_bit : ℕ → Bool
is_bit b = ltb b 2

abbrev pub is_zero : ℕ → Bool
is_zero x = eqb x 0
