-- The starred cases of document 01 in one table: of the definitions, of the hours, of the sheet, and of calls of the operations.
use Rattle.std.specs.Prelude.{ℕ, ◌≡◌, true, List, [], ◌∷◌, pos, length}
use Rattle.basics.specs.declared.Refusal.TheVariants.{Singular, Dependent, NoCodeword}
use Rattle.basics.specs.Lists.{written}
use Rattle.basics.specs.Outcome.{Done, Refused, Outcome, refused, accepted, counted}
use Rattle.field.specs.Galois.{IsField}
use Rattle.elliptic.specs.declared.Curve.{Curve}
use Rattle.codewords.specs.Code.{Code, code_answer}
use Rattle.codewords.specs.Codewords.{message}
use Rattle.codewords.specs.Cases.{curve, A, B, KnownCases}
use Rattle.curve.specs.Points.{points_outcome}
use Rattle.hours.specs.Cases.{Cases}
use Rattle.blocks.specs.Outcomes.{pack_block_outcome}
use Rattle.sheet.specs.Cases.{SheetCases}
use Rattle.solving.specs.Tests.{Lent}
use Rattle.coder.specs.Outcomes.{systematic_function_outcome, systematic_word_outcome, relation_outcome, pick_outcome, rebuild_outcome}
use Rattle.demands.specs.Call.{Call, Of, Fits}

-- every call of the operation whose output has the size and that has room to work is accepted and gives l, or is refused
abbrev pub Gives : ℕ → (List ℕ → List ℕ → Outcome Lent) → List ℕ → Type 0
Gives size outcome l = (c : Call) → Of outcome c → Fits size c → (c.answer ≡ Done) × (c.out_after ≡ l)

-- Points in buffers of 288
abbrev pub Lists : Curve → List ℕ → List ℕ → Type 0
Lists C xs ys = (bx by : List ℕ) → length bx ≡ 288 → length by ≡ 288 → points_outcome 2 C bx by ≡ counted (length xs) (written xs bx, written ys by)

pub record Starred : Type 0 where
  pub definitions : KnownCases
  pub hours : Cases
  pub sheet : SheetCases
  -- "A: points ..", "B: seven points", "curve 0,0,1,0,2, m = 2: count 0", "curve all zero: 3"
  pub points_A : Lists (A 1).curve (A 1).xs (A 1).ys
  pub points_B : Lists (B 1).curve (B 1).xs (B 1).ys
  pub no_points : Lists (curve 0 0 1 0 2) [] []
  pub all_zero_3 : (m : ℕ) → IsField m → (bx by : List ℕ) → points_outcome m (curve 0 0 0 0 0) bx by ≡ refused Singular
  -- "A, k = 5, places 1,2,3,5,8: functions for the unit messages in turn"
  pub unit_0 : Gives 5 (systematic_function_outcome (A 5) (1 ∷ 2 ∷ 3 ∷ 5 ∷ 8 ∷ []) (1 ∷ 0 ∷ 0 ∷ 0 ∷ 0 ∷ [])) (1 ∷ 0 ∷ 1 ∷ 2 ∷ 3 ∷ [])
  pub unit_1 : Gives 5 (systematic_function_outcome (A 5) (1 ∷ 2 ∷ 3 ∷ 5 ∷ 8 ∷ []) (0 ∷ 1 ∷ 0 ∷ 0 ∷ 0 ∷ [])) (0 ∷ 1 ∷ 1 ∷ 1 ∷ 1 ∷ [])
  pub unit_2 : Gives 5 (systematic_function_outcome (A 5) (1 ∷ 2 ∷ 3 ∷ 5 ∷ 8 ∷ []) (0 ∷ 0 ∷ 1 ∷ 0 ∷ 0 ∷ [])) (0 ∷ 0 ∷ 0 ∷ 2 ∷ 2 ∷ [])
  pub unit_3 : Gives 5 (systematic_function_outcome (A 5) (1 ∷ 2 ∷ 3 ∷ 5 ∷ 8 ∷ []) (0 ∷ 0 ∷ 0 ∷ 1 ∷ 0 ∷ [])) (0 ∷ 2 ∷ 0 ∷ 1 ∷ 2 ∷ [])
  pub unit_4 : Gives 5 (systematic_function_outcome (A 5) (1 ∷ 2 ∷ 3 ∷ 5 ∷ 8 ∷ []) (0 ∷ 0 ∷ 0 ∷ 0 ∷ 1 ∷ [])) (0 ∷ 3 ∷ 0 ∷ 0 ∷ 2 ∷ [])
  -- "A, k = 2, places 1,2: 12. B, k = 2, places 1,2, message 1,0: function 1,1, word 1,0,0,3,3,2,2"
  pub pair_12 : (msg : List ℕ) (c : Call) → Of (systematic_word_outcome (A 2) (1 ∷ 2 ∷ []) msg) c → message (A 2) msg ≡ true → Fits 8 c → c.answer ≡ Refused Dependent
  pub function_B : Gives 2 (systematic_function_outcome (B 2) (1 ∷ 2 ∷ []) (1 ∷ 0 ∷ [])) (1 ∷ 1 ∷ [])
  pub word_B : Gives 7 (systematic_word_outcome (B 2) (1 ∷ 2 ∷ []) (1 ∷ 0 ∷ [])) (1 ∷ 0 ∷ 0 ∷ 3 ∷ 3 ∷ 2 ∷ 2 ∷ [])
  -- "A, k = 3, places 3,5,7: 12; Relation 2,0,1. Pick of 3,5,7,1: 3,5,1"
  pub line_12 : (msg : List ℕ) (c : Call) → Of (systematic_word_outcome (A 3) (3 ∷ 5 ∷ 7 ∷ []) msg) c → message (A 3) msg ≡ true → Fits 8 c → c.answer ≡ Refused Dependent
  pub line_relation : Gives 3 (relation_outcome (A 3) (3 ∷ 5 ∷ 7 ∷ [])) (2 ∷ 0 ∷ 1 ∷ [])
  pub line_pick : Gives 3 (pick_outcome (A 3) (3 ∷ 5 ∷ 7 ∷ 1 ∷ [])) (3 ∷ 5 ∷ 1 ∷ [])
  -- "A, k = 4, places 1,2,3,4: Relation 0,1,0,1"
  pub four_relation : Gives 4 (relation_outcome (A 4) (1 ∷ 2 ∷ 3 ∷ 4 ∷ [])) (0 ∷ 1 ∷ 0 ∷ 1 ∷ [])
  -- "A, k = 5, Rebuild of 1,2,3,5,8 with 1,0,0,0,0 gives the word above; with place 4 and symbol 0 added, 14"
  pub rebuilt : Gives 8 (rebuild_outcome (A 5) (1 ∷ 2 ∷ 3 ∷ 5 ∷ 8 ∷ []) (1 ∷ 0 ∷ 0 ∷ 0 ∷ 0 ∷ [])) (1 ∷ 0 ∷ 0 ∷ 2 ∷ 0 ∷ 0 ∷ 3 ∷ 0 ∷ [])
  pub not_rebuilt_14 : (c : Call) → Of (rebuild_outcome (A 5) (1 ∷ 2 ∷ 3 ∷ 5 ∷ 8 ∷ 4 ∷ []) (1 ∷ 0 ∷ 0 ∷ 0 ∷ 0 ∷ 0 ∷ [])) c → Fits 8 c → c.answer ≡ Refused NoCodeword
  -- "m = 6, k = 5, means 0 and 32,767: 3,58,7,63,63", whatever the curve and its points
  pub packed_6 : (code : Code) → code_answer code ≡ Done → code.field ≡ 6 → code.k ≡ 5
      → pack_block_outcome code (pos 0 ∷ pos 32767 ∷ []) 5 ≡ accepted (3 ∷ 58 ∷ 7 ∷ 63 ∷ 63 ∷ [])
