-- From one end to the other: the means of a block that was packed, coded, sent, heard in part and rebuilt come back.
use Rattle.basics.specs.Outcome.{Answer, Done}
use Rattle.std.specs.Prelude.{ℕ, ◌≤◌, ◌≡◌, true, List, map, ℤ, length}
use Rattle.codewords.specs.Code.{Code, n}
use Rattle.codewords.specs.Codewords.{place, symbol_at, places, choice, usable}
use Rattle.coder.specs.Outcomes.{systematic_word_outcome, rebuild_outcome}
use Rattle.demands.specs.Call.{Call, Of, Fits}
use Rattle.demands.specs.Blocks.{Packs, Unpacks}

-- the symbols of a word at places
abbrev pub symbols_at : List ℕ → List ℕ → List ℕ
symbols_at w J = map (λ p. symbol_at w (place p)) J

module _ (code : Code) (means : List ℤ) (J : List ℕ) where
  -- in the box: means are packed to a block, and the block to a word at the chosen places J
  pub record Sent (c : Call) : Type 0 where
    pub old : List ℕ
    pub block : List ℕ
    pub packed : Packs code means Done old block
    pub chosen : choice code J ≡ true
    pub coded : Of (systematic_word_outcome code J block) c
    pub fits : Fits (n code) c
    pub done : c.answer ≡ Done

  -- in the office: Rebuild of the word's symbols at the heard places, k usable ones or more, and Unpack of what it has at the chosen places
  pub record Heard (w heard : List ℕ) (c : Call) (r : Answer) (new : List ℤ) : Type 0 where
    pub are_places : places code heard ≡ true
    pub enough : code.k ≤ length heard
    pub usable_if : length heard ≡ code.k → usable code heard ≡ true
    pub rebuilt : Of (rebuild_outcome code heard (symbols_at w heard)) c
    pub fits : Fits (n code) c
    pub old : List ℤ
    pub unpacked : Unpacks code (symbols_at c.out_after J) r old new
    pub hours : length old ≡ length means

  -- then nothing is refused, and the word and the means are those that were sent
  pub record Back (w : List ℕ) (c : Call) (r : Answer) (new : List ℤ) : Type 0 where
    pub rebuilt_done : c.answer ≡ Done
    pub same_word : c.out_after ≡ w
    pub unpacked_done : r ≡ Done
    pub same_means : new ≡ means
