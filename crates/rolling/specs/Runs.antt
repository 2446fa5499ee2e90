-- The rolling mean over the list of all hours so far, with nothing kept from one hour to the next. Lists of hours have the newest first.
use Rattle.std.specs.Prelude.{ℕ, ◌+◌, ◌^◌, Bool, true, ◌&&◌, not, cond, List, [], ◌∷◌, map, leb, ltb, eqb, ℤ, length, take}
use Rattle.basics.specs.Lists.{filter}
use Rattle.hours.specs.Means.{sum, nearest, absent}
use Rattle.hours.specs.Packing.{is_absent, valid}

-- an hour that was handed in: "the next hour number and its mean or 32,767"
pub record Hour : Type 0 where
  pub number : ℕ
  pub mean : ℤ

-- the hour n may come next: "one more than the last", and "for a fresh state" not "above 71,000,000"
abbrev pub follows : List Hour → ℕ → Bool
follows [] n = leb n 71000000
follows (h ∷ hs) n = eqb n (h.number + 1)

-- "a run of accepted hours from a fresh state"; hour numbers have 32 bits
abbrev pub run : List Hour → Bool
run [] = true
run (h ∷ hs) = valid h.mean && ltb h.number (2 ^ 32) && follows hs h.number && run hs

-- "the present hours among the last 24", or among all if there are fewer: their means
abbrev pub present : List ℤ → List ℤ
present means = filter (λ z. not (is_absent z)) means

abbrev pub last_day : List Hour → List ℤ
last_day hs = present (take 24 (map (λ h. h.mean) hs))

-- it "needs 18 of them, is rounded as an hourly mean is, and is 32,767 otherwise"
abbrev pub day_mean : List ℤ → ℤ
day_mean means = cond (ltb (length means) 18) absent (nearest (sum means) (length means))

-- the rolling mean of all hours so far
abbrev pub rolling_mean : List Hour → ℤ
rolling_mean hs = day_mean (last_day hs)
