-- Known cases of the definitions, in one record.
use Rattle.std.specs.Prelude.{ℕ, zero, suc, ◌+◌, ◌-◌, ◌^◌, true, false, ◌≡◌, List, [], ◌∷◌, ◌++◌, ℤ, pos, negsuc, length, replicate}
use Rattle.hours.specs.Means.{absent}
use Rattle.rolling.specs.declared.state.RollingState.{RollingState}
use Rattle.rolling.specs.Runs.{Hour, follows, run, rolling_mean}
use Rattle.rolling.specs.State.{state_of, possible, continues}
use Rattle.rolling.specs.Bytes.{state_bytes, state_from}

-- hours with these means, the newest first, from a first hour on
abbrev pub hours_from : ℕ → List ℤ → List Hour
hours_from first [] = []
hours_from first (z ∷ zs) = record { number = first + length zs; mean = z } ∷ hours_from first zs

-- m means of one value, and n absent ones before them
abbrev pub mixed : ℕ → ℤ → ℕ → List Hour
mixed m z n = hours_from 0 (replicate m z ++ replicate n absent)

-- a state with these codes
abbrev pub holding : List ℕ → ℕ → RollingState
holding codes next = record { codes = codes; next = next; spare = 0 }

-- n absent codes in bytes
abbrev pub pairs : ℕ → List ℕ
pairs zero = []
pairs (suc n) = 255 ∷ 127 ∷ pairs n

pub record Cases : Type 0 where
  -- 17 and 18 present hours, alone and among 24; none at all
  pub seventeen : rolling_mean (mixed 17 (pos 7) 0) ≡ absent
  pub eighteen : rolling_mean (mixed 18 (pos 7) 0) ≡ pos 7
  pub seventeen_of_24 : rolling_mean (mixed 17 (pos 7) 7) ≡ absent
  pub eighteen_of_24 : rolling_mean (mixed 18 (pos 7) 6) ≡ pos 7
  pub none_present : rolling_mean (mixed 0 (pos 7) 24) ≡ absent
  -- the 24th hour counts, and the 25th from the end does not
  pub hour_24 : rolling_mean (hours_from 0 (replicate 23 (pos 0) ++ pos 24 ∷ [])) ≡ pos 1
  pub hour_25 : rolling_mean (hours_from 0 (replicate 24 (pos 0) ++ pos 24 ∷ [])) ≡ pos 0
  -- halves away from zero: sums 9, 8 and −9 over 18 hours
  pub half_up : rolling_mean (hours_from 0 (pos 9 ∷ replicate 17 (pos 0))) ≡ pos 1
  pub below_half : rolling_mean (hours_from 0 (pos 8 ∷ replicate 17 (pos 0))) ≡ pos 0
  pub half_down : rolling_mean (hours_from 0 (negsuc 8 ∷ replicate 17 (pos 0))) ≡ negsuc 0
  -- the first hour, a later one, and one that is left out
  pub first_hour : run (hours_from 71000000 (pos 0 ∷ [])) ≡ true
  pub first_too_late : run (hours_from 71000001 (pos 0 ∷ [])) ≡ false
  pub later_hour : run (hours_from 71000000 (pos 0 ∷ pos 0 ∷ [])) ≡ true
  pub hour_left_out : follows (hours_from 5 (pos 0 ∷ [])) 7 ≡ false
  pub no_mean : run (hours_from 0 (pos 20001 ∷ [])) ≡ false
  -- no hour comes after the last one of 32 bits
  pub after_last : continues (2 ^ 32) (2 ^ 32 - 1) ≡ false
  -- states: a mean of 20,000 and one of 20,001, in 15 bits; a mean before hour 0; after the last hour; beyond it
  pub highest : possible (holding (22000 ∷ replicate 23 32767) 1) ≡ true
  pub too_high : possible (holding (22001 ∷ replicate 23 32767) 1) ≡ false
  pub before_0 : possible (holding (0 ∷ 0 ∷ replicate 22 32767) 1) ≡ false
  pub after_all : possible (holding (replicate 24 0) (2 ^ 32)) ≡ true
  pub beyond : possible (holding (replicate 24 0) (2 ^ 32 + 1)) ≡ false
  -- bytes: 7FFF for an absent hour, 07D0 for a mean of 0 at hour 5; zeros are no state
  pub one_hour : state_bytes (state_of (hours_from 5 (pos 0 ∷ []))) ≡ (208 ∷ 7 ∷ []) ++ pairs 23 ++ 6 ∷ replicate 15 0
  pub fresh_bytes : state_bytes (state_of []) ≡ pairs 24 ++ replicate 16 0
  pub zeros : possible (state_from (replicate 64 0)) ≡ false
