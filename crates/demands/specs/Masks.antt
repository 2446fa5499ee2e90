-- Heard a word at a time: request S-3's "for every 64-bit number its ones are as many as the places found in it", and that the list and the count of a call
-- are those of the mask's five numbers.
use Rattle.std.specs.Prelude.{ℕ, zero, suc, ◌+◌, ◌*◌, ◌^◌, ◌<◌, ◌≡◌, List, [], ◌++◌, map, take}
use Rattle.std.specs.Int.Count.{ones}
use Rattle.basics.specs.Outcome.{Answer, Done, Counted, Meets}
use Rattle.basics.specs.SetBits.{Bytes, found, Finds}
use Rattle.codewords.specs.Code.{Code}
use Rattle.code.specs.Heard.{heard_outcome}
use Rattle.code.specs.Words.{word_of}
use Rattle.demands.specs.Order.{first, heard_tests}

-- of the first i numbers of a mask, each of eight bytes, the lowest first: the places found in them, one number after the other, and their ones
unfoldable pub places_found : List ℕ → ℕ → List ℕ
places_found mask zero = []
places_found mask (suc i) = places_found mask i ++ map (λ j. 64 * i + j + 1) (found 64 (word_of mask i))

unfoldable pub ones_counted : List ℕ → ℕ → ℕ
ones_counted mask zero = 0
ones_counted mask (suc i) = ones_counted mask i + ones (word_of mask i)

pub record Masks : Type 0 where
  -- "its ones are as many as the places found in it"; these are exactly its set bits, ascending
  pub every_number : (x : ℕ) → x < 2 ^ 64 → Finds 64 x
  -- an accepted call
  pub by_numbers : (code : Code) (mask : List ℕ) (r : Answer) (old new : List ℕ) → Bytes mask → Meets (heard_outcome code mask old) r old new
      → first (heard_tests code mask old) ≡ Done → (r ≡ Counted (ones_counted mask 5)) × (take (ones_counted mask 5) new ≡ places_found mask 5)
