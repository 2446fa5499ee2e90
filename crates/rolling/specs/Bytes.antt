-- The state in 64 bytes, and the calls that keep it there.
use Rattle.std.specs.Prelude.{ℕ, zero, suc, ◌*◌, ◌/◌, ◌%◌, ◌^◌, List, [], ◌∷◌, ◌++◌, eqb, ℤ, length, take, drop}
use Rattle.basics.specs.Lists.{table}
use Rattle.basics.specs.Outcome.{Outcome, accepted, check}
use Rattle.basics.specs.SetBits.{little_endian}
use Rattle.basics.specs.declared.Refusal.TheVariants.{Length}
use Rattle.rolling.specs.declared.state.RollingState.{RollingState}
use Rattle.rolling.specs.State.{state_of, advanced, figure, tested}

-- a number in n bytes, the lowest first; and numbers in n bytes each
unfoldable pub bytes_of : ℕ → ℕ → List ℕ
bytes_of zero x = []
bytes_of (suc n) x = x % 2 ^ 8 ∷ bytes_of n (x / 2 ^ 8)

unfoldable pub in_bytes : ℕ → List ℕ → List ℕ
in_bytes n [] = []
in_bytes n (x ∷ xs) = bytes_of n x ++ in_bytes n xs

-- the codes in two bytes each, the next hour and the spare number in eight
unfoldable pub state_bytes : RollingState → List ℕ
state_bytes s = in_bytes 2 s.codes ++ in_bytes 8 (s.next ∷ s.spare ∷ [])

-- ---- and back

-- the first k numbers of n bytes each
unfoldable pub numbers : ℕ → ℕ → List ℕ → List ℕ
numbers n k bytes = table (λ i. little_endian (take n (drop (n * i) bytes))) k

unfoldable pub state_from : List ℕ → RollingState
state_from bytes = record { codes = numbers 2 24 bytes; next = little_endian (take 8 (drop 48 bytes)); spare = little_endian (take 8 (drop 56 bytes)) }

-- ---- the calls

-- a fresh state to the lent bytes
abbrev pub fresh_outcome : List ℕ → Outcome (List ℕ)
fresh_outcome bytes = check (eqb (length bytes) 64) Length (accepted (state_bytes (state_of [])))

-- a step from the state in the lent bytes: the new state there, and the rolling mean in a list of one
abbrev pub rolling_outcome : List ℕ → ℕ → ℤ → List ℤ → Outcome (List ℕ × List ℤ)
rolling_outcome bytes n z out =
    let s = state_from bytes in
    let new = advanced s n z in
    check (eqb (length bytes) 64) Length
    (check (eqb (length out) 1) Length
    (tested s n z (accepted (state_bytes new, figure new.codes ∷ []))))
