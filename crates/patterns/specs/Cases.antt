-- Small cases of request S-7 on code A of document 01.
use Rattle.std.specs.Prelude.{ℕ, ◌≡◌, List, [], ◌∷◌}
use Rattle.codewords.specs.Code.{Code}
use Rattle.codewords.specs.Cases.{A}
use Rattle.patterns.specs.Ranking.{trust_at, ranking}
use Rattle.patterns.specs.Patterns.{patterns}
use Rattle.patterns.specs.Computed.{least_left}
use Rattle.patterns.specs.Best.{picked, best, best_cost, tries_made, gap}

-- the figures of a call: cost, tries made and gap
abbrev figures : Code → List ℕ → List ℕ → ℕ → List ℕ
figures code received trusts budget =
    best_cost code received trusts budget ∷ tries_made code budget ∷ gap code received trusts budget ∷ []

abbrev received : List ℕ
received = 1 ∷ 0 ∷ 3 ∷ 2 ∷ 2 ∷ 1 ∷ 3 ∷ 0 ∷ []

abbrev trusts : List ℕ
trusts = 3 ∷ 7 ∷ 3 ∷ 9 ∷ 0 ∷ 7 ∷ 7 ∷ 1 ∷ []

abbrev skipping : List ℕ
skipping = 0 ∷ 1 ∷ 9 ∷ 2 ∷ 8 ∷ 1 ∷ 9 ∷ 5 ∷ []

abbrev shifted : List ℕ
shifted = 1 ∷ 0 ∷ 3 ∷ 0 ∷ 0 ∷ 0 ∷ 0 ∷ 0 ∷ []

abbrev uneven : List ℕ
uneven = 9 ∷ 2 ∷ 1 ∷ 1 ∷ 1 ∷ 1 ∷ 1 ∷ 1 ∷ []

pub record Cases : Type 0 where
  -- equal trust by lower place
  pub ranked : ranking (trust_at trusts) 8 ≡ 4 ∷ 2 ∷ 6 ∷ 7 ∷ 1 ∷ 3 ∷ 8 ∷ 5 ∷ []
  -- the last picked place changes first
  pub patterns_1 : patterns 4 1 ≡ (0 ∷ []) ∷ (1 ∷ []) ∷ (2 ∷ []) ∷ (3 ∷ []) ∷ []
  pub patterns_2 : patterns 4 2
      ≡ (0 ∷ 0 ∷ []) ∷ (0 ∷ 1 ∷ []) ∷ (0 ∷ 2 ∷ []) ∷ (0 ∷ 3 ∷ []) ∷ (1 ∷ 0 ∷ []) ∷ (2 ∷ 0 ∷ []) ∷ (3 ∷ 0 ∷ [])
      ∷ (1 ∷ 1 ∷ []) ∷ (2 ∷ 1 ∷ []) ∷ (3 ∷ 1 ∷ []) ∷ (1 ∷ 2 ∷ []) ∷ (2 ∷ 2 ∷ []) ∷ (3 ∷ 2 ∷ []) ∷ (1 ∷ 3 ∷ []) ∷ (2 ∷ 3 ∷ []) ∷ (3 ∷ 3 ∷ []) ∷ []
  -- pairs by their later place, then the earlier
  pub patterns_4 : patterns 2 4
      ≡ (0 ∷ 0 ∷ 0 ∷ 0 ∷ []) ∷ (0 ∷ 0 ∷ 0 ∷ 1 ∷ []) ∷ (0 ∷ 0 ∷ 1 ∷ 0 ∷ []) ∷ (0 ∷ 1 ∷ 0 ∷ 0 ∷ []) ∷ (1 ∷ 0 ∷ 0 ∷ 0 ∷ [])
      ∷ (0 ∷ 0 ∷ 1 ∷ 1 ∷ []) ∷ (0 ∷ 1 ∷ 0 ∷ 1 ∷ []) ∷ (1 ∷ 0 ∷ 0 ∷ 1 ∷ []) ∷ (0 ∷ 1 ∷ 1 ∷ 0 ∷ []) ∷ (1 ∷ 0 ∷ 1 ∷ 0 ∷ []) ∷ (1 ∷ 1 ∷ 0 ∷ 0 ∷ []) ∷ []
  -- k = 1: one try, two, and all
  pub picked_1 : picked (A 1) trusts ≡ 4 ∷ []
  pub best_1_1 : best (A 1) received trusts 1 ≡ 2 ∷ 2 ∷ 2 ∷ 2 ∷ 2 ∷ 2 ∷ 2 ∷ 2 ∷ []
  pub figures_1_1 : figures (A 1) received trusts 1 ≡ 28 ∷ 1 ∷ 19 ∷ []
  pub best_1_2 : best (A 1) received trusts 2 ≡ 3 ∷ 3 ∷ 3 ∷ 3 ∷ 3 ∷ 3 ∷ 3 ∷ 3 ∷ []
  pub figures_1_2 : figures (A 1) received trusts 2 ≡ 27 ∷ 2 ∷ 18 ∷ []
  pub figures_1_5 : figures (A 1) received trusts 5 ≡ 27 ∷ 4 ∷ 0 ∷ []
  -- k = 2
  pub picked_2 : picked (A 2) trusts ≡ 4 ∷ 2 ∷ []
  pub best_2_2 : best (A 2) received trusts 2 ≡ 1 ∷ 1 ∷ 2 ∷ 2 ∷ 0 ∷ 0 ∷ 3 ∷ 3 ∷ []
  pub figures_2_2 : figures (A 2) received trusts 2 ≡ 18 ∷ 2 ∷ 11 ∷ []
  pub figures_2_5 : figures (A 2) received trusts 5 ≡ 18 ∷ 5 ∷ 9 ∷ []
  pub figures_2_15 : figures (A 2) received trusts 15 ≡ 18 ∷ 15 ∷ 2 ∷ []
  pub figures_2_16 : figures (A 2) received trusts 16 ≡ 18 ∷ 16 ∷ 0 ∷ []
  -- k = 3
  pub picked_3 : picked (A 3) trusts ≡ 4 ∷ 2 ∷ 6 ∷ []
  pub best_3_4 : best (A 3) received trusts 4 ≡ 1 ∷ 0 ∷ 3 ∷ 2 ∷ 3 ∷ 2 ∷ 3 ∷ 2 ∷ []
  pub figures_3_1 : figures (A 3) received trusts 1 ≡ 13 ∷ 1 ∷ 6 ∷ []
  pub figures_3_4 : figures (A 3) received trusts 4 ≡ 8 ∷ 4 ∷ 1 ∷ []
  pub figures_3_37 : figures (A 3) received trusts 37 ≡ 8 ∷ 37 ∷ 0 ∷ []
  -- places 3, 7 and 5 are dependent, so Pick passes 5 by
  pub picked_skip : picked (A 3) skipping ≡ 3 ∷ 7 ∷ 8 ∷ []
  pub best_skip : best (A 3) received skipping 11 ≡ 1 ∷ 2 ∷ 1 ∷ 2 ∷ 2 ∷ 1 ∷ 3 ∷ 0 ∷ []
  pub figures_skip : figures (A 3) received skipping 5 ≡ 12 ∷ 5 ∷ 3 ∷ []
  -- the least untried change is not the next try: of picked trusts 9, 2, 1 a place of 9 is next, and a pair of 2 and 1 is less
  pub figures_pair : figures (A 3) shifted uneven 7 ≡ 4 ∷ 7 ∷ 1 ∷ []
  -- what is computed for the gap: a place, two pairs and three places
  pub left_start : least_left (9 ∷ 7 ∷ 5 ∷ 3 ∷ []) 4 3 0 ≡ 3 ∷ 8 ∷ 12 ∷ 15 ∷ []
  pub left_last_single : least_left (9 ∷ 7 ∷ 5 ∷ 3 ∷ []) 4 3 11 ≡ 9 ∷ 8 ∷ 12 ∷ 15 ∷ []
  pub left_pair : least_left (9 ∷ 7 ∷ 5 ∷ 3 ∷ []) 4 3 30 ≡ 12 ∷ 12 ∷ 15 ∷ []
  pub left_last_pair : least_left (9 ∷ 7 ∷ 5 ∷ 3 ∷ []) 4 3 65 ≡ 16 ∷ 15 ∷ []
  pub left_none : least_left (9 ∷ 7 ∷ 5 ∷ 3 ∷ []) 4 3 66 ≡ 15 ∷ []
  pub left_two : least_left (9 ∷ 7 ∷ []) 2 3 15 ≡ []
