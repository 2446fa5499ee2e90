-- Request S-1: n symbols to the codeword that differs from them in at most t places, with the count of places changed. Code; 8; 11; 21.
-- Which codewords lie within t of a word, and that there is never more than one, is said in the crate decoding.
use Rattle.std.specs.Prelude.{ℕ, List}
use Rattle.basics.specs.declared.Refusal.TheVariants.{TooFar}
use Rattle.basics.specs.Outcome.{Outcome, counted, check}
use Rattle.codewords.specs.Code.{Code, n, check_code}
use Rattle.solving.specs.Tests.{Lent, cleared, check_length, check_room, check_symbols}
use Rattle.decoding.specs.Near.{distance, correctable, corrected}

-- Correct: "refuses with 21, after code, 8 and 11, if no codeword lies within t"
abbrev pub correct_outcome : Code → List ℕ → List ℕ → List ℕ → Outcome Lent
correct_outcome code r out work =
    check_code code
    (check_length r (n code) (check_length out (n code) (check_room work
    (check_symbols code r
    (check (correctable code r) TooFar
    (counted (distance (corrected code r) r) (corrected code r, cleared work)))))))
