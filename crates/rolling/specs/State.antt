-- The running state of a run, the test of whether there is such a run, and a step.
use Rattle.std.specs.Prelude.{ℕ, ◌+◌, ◌^◌, Bool, true, ◌&&◌, not, cond, ◌≡◌, List, [], ◌∷◌, ◌++◌, map, leb, eqb, ℤ, take, drop, replicate}
use Rattle.basics.specs.Lists.{all, filter}
use Rattle.basics.specs.Outcome.{Outcome, accepted, check}
use Rattle.basics.specs.declared.Refusal.TheVariants.{Reading, NoRun}
use Rattle.hours.specs.Packing.{valid, encode, is_code, decode}
use Rattle.rolling.specs.declared.state.RollingState.{RollingState}
use Rattle.rolling.specs.Runs.{Hour, run, present, day_mean}

-- the hour behind the newest, and 0 where there is none
abbrev pub next_hour : List Hour → ℕ
next_hour [] = 0
next_hour (h ∷ hs) = h.number + 1

-- the means in Pack's 15 bits, and absent ones behind them: the first 24
unfoldable pub held : List ℤ → List ℕ
held means = take 24 (map encode means ++ replicate 24 32767)

-- the state that a run gives
abbrev pub state_of : List Hour → RollingState
state_of hs = record { codes = held (map (λ h. h.mean) hs); next = next_hour hs; spare = 0 }

-- "no such run, not even an empty one, gives the state handed in": here, that one does
pub record Given (s : RollingState) : Type 0 where
  pub hours : List Hour
  pub is_run : run hours ≡ true
  pub gives : state_of hours ≡ s

-- ---- the same of a state alone

abbrev pub absent_code : ℕ → Bool
absent_code c = eqb c 32767

-- the test of whether a run gives the state, as proofs/Reached.antt shows: codes of means that Pack takes, and absent ones for hours before hour 0
unfoldable pub possible : RollingState → Bool
possible s = leb s.next (2 ^ 32) && eqb s.spare 0 && all is_code s.codes && all absent_code (drop s.next s.codes)

-- the hour n may come next
abbrev pub continues : ℕ → ℕ → Bool
continues next n = cond (eqb next 0) (leb n 71000000) (eqb n next)

-- one hour further: the oldest mean falls out
unfoldable pub advanced : RollingState → ℕ → ℤ → RollingState
advanced s n z = record { codes = encode z ∷ take 23 s.codes; next = n + 1; spare = 0 }

-- the rolling mean of the codes
unfoldable pub figure : List ℕ → ℤ
figure codes = day_mean (present (map decode codes))

-- "it refuses with 16 as Pack does and then with 22": the tests of a step, and then o
abbrev pub tested : {M : Type 0} → RollingState → ℕ → ℤ → Outcome M → Outcome M
tested s n z o =
    check (valid z) Reading
    (check (possible s) NoRun
    (check (continues s.next n) NoRun o))

-- the state, the hour and its mean to the new state and the rolling mean
abbrev pub step_outcome : RollingState → ℕ → ℤ → Outcome (RollingState × ℤ)
step_outcome s n z = let new = advanced s n z in tested s n z (accepted (new, figure new.codes))

-- ---- what the loop adds up

abbrev pub present_codes : List ℕ → List ℕ
present_codes codes = filter (λ c. not (absent_code c)) codes

abbrev pub total : List ℕ → ℕ
total [] = 0
total (c ∷ cs) = c + total cs
