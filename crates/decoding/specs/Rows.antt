-- How the codeword is found. A row is a pair of functions N and E with N = r·E at the places so far; of those light enough that one more wrong symbol than t
-- could not hide, the rows hold one wherever there is any. E is then zero at the wrong symbols, and the others decide.
use Rattle.std.specs.Prelude.{ℕ, zero, suc, ◌+◌, Bool, true, cond, not, ◌&&◌, List, [], ◌∷◌, map, eqb, leb, ltb, length, get_or, replicate}
use Rattle.basics.specs.Lists.{filter, table}
use Rattle.field.specs.Sum.{◌⊕◌}
use Rattle.field.specs.Field.{Arithmetic}
use Rattle.elliptic.specs.declared.Point.{Point}
use Rattle.elliptic.specs.Curve.{point}
use Rattle.elliptic.specs.Functions.{weight}
use Rattle.elliptic.specs.Pair.{evaluate, add_scaled, times_linear}
use Rattle.codewords.specs.Code.{Code, arithmetic, n, points}
use Rattle.codewords.specs.Codewords.{place, symbol_at, point_at, word}
use Rattle.codewords.specs.Computed.{solution}
use Rattle.decoding.specs.Near.{radius, within}

-- N and E by their coefficients, and a key, which says where the pair leads: 2w for a monomial of weight w in N, 2(k + w) + 1 in E
pub record Row : Type 0 where
  pub key : ℕ
  pub num : List ℕ
  pub den : List ℕ

-- 1 at index i and 0 elsewhere
abbrev pub unit : ℕ → ℕ → List ℕ
unit size i = table (λ j. cond (eqb j i) 1 0) size

-- how many coefficients N has, where E has t + 1, and the largest key that there is room for
abbrev pub span : ℕ → ℕ → ℕ
span k t = k + weight t

abbrev pub top : ℕ → ℕ → ℕ
top k t = span k t + span k t + 1

module _ (F : Arithmetic) where
  infixl 70 ◌·◌
  open F use {◌·◌, inv}

  -- N + v·E at P: 0 if the pair meets the symbol v there
  unfoldable pub defect : Point → ℕ → Row → ℕ
  defect P v r = evaluate F r.num P ⊕ v · evaluate F r.den P

  -- (X + α)·(N, E), as far as there is room
  unfoldable pub lifted : ℕ → Row → Row
  lifted α r = record { key = r.key + 4; num = times_linear F α r.num; den = times_linear F α r.den }

  -- the row with a multiple of p
  unfoldable pub mixed : ℕ → Row → Row → Row
  mixed c p r = record { key = r.key; num = add_scaled F c p.num r.num; den = add_scaled F c p.den r.den }

  -- p is the lightest row that does not meet the symbol: it is lifted, and the others take the multiple of it that makes them meet it
  unfoldable pub turned : Point → ℕ → Row → Row → Row
  turned P v p r = cond (eqb r.key p.key) (lifted P.x r) (mixed (defect P v r · inv (defect P v p)) p r)

-- there is room for keys up to a limit
module _ (limit : ℕ) where
  -- no row: its key is too large
  abbrev pub nobody : Row
  nobody = record { key = suc limit; num = []; den = [] }

  -- of the rows that pass a test and that there is room for, the one with the least key
  unfoldable pub least : (Row → Bool) → List Row → Row
  least p [] = nobody
  least p (r ∷ rows) = let best = least p rows in cond (p r && ltb r.key best.key) r best

  module _ (F : Arithmetic) where
    unfoldable pub pivot : Point → ℕ → List Row → Row
    pivot P v rows = least (λ r. not (eqb (defect F P v r) 0)) rows

    -- one more place P, with the symbol v
    unfoldable pub step : Point → ℕ → List Row → List Row
    step P v rows = let p = pivot P v rows in cond (leb p.key limit) (map (turned F P v p) rows) rows

module _ (k t : ℕ) where
  -- the pairs (1, 0), (Y, 0), (0, 1) and (0, Y)
  unfoldable pub first_rows : List Row
  first_rows =
      record { key = 0; num = unit (span k t) 0; den = replicate (suc t) 0 }
      ∷ record { key = 6; num = unit (span k t) 2; den = replicate (suc t) 0 }
      ∷ record { key = k + k + 1; num = replicate (span k t) 0; den = unit (suc t) 0 }
      ∷ record { key = k + k + 7; num = replicate (span k t) 0; den = unit (suc t) 2 }
      ∷ []

  module _ (F : Arithmetic) where
    -- the rows after the first i places
    unfoldable pub rows_after : List Point → List ℕ → ℕ → List Row
    rows_after pts r zero = first_rows
    rows_after pts r (suc i) = step (top k t) F (get_or pts i (point 0 0)) (get_or r i 0) (rows_after pts r i)

    -- the lightest row after all places
    unfoldable pub found : List Point → List ℕ → Row
    found pts r = least (top k t) (λ r. true) (rows_after pts r (length pts))

-- places 1 to n
abbrev pub all_places : ℕ → List ℕ
all_places n = table suc n

module _ (code : Code) (r : List ℕ) where
  -- the places where E of the lightest row is not zero, and their symbols. There is none where there is no room for a row
  unfoldable pub kept_places : List ℕ
  kept_places =
      let E = (found code.k (radius code) (arithmetic code) (points code) r).den in
      filter (λ p. not (eqb (evaluate (arithmetic code) E (point_at code (place p))) 0)) (all_places (n code))

  unfoldable pub kept_symbols : List ℕ
  kept_symbols = map (λ p. symbol_at r (place p)) kept_places

  -- the function that takes them, and whether it is what is sought
  unfoldable pub decoded : List ℕ
  decoded = solution code kept_places kept_symbols

  unfoldable pub decodes : Bool
  decodes = ltb code.k (length kept_places) && within code r (word code decoded)
