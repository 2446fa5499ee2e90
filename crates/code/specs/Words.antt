-- A mask as a list of words: what its functions give on the way.
use Rattle.std.specs.Prelude.{ℕ, ◌*◌, List, length, take, drop}
use Rattle.basics.specs.SetBits.{little_endian}
use Rattle.code.specs.Heard.{heard_places}

-- the ith eight bytes as one number
abbrev pub word_of : List ℕ → ℕ → ℕ
word_of mask i = little_endian (take 8 (drop (8 * i) mask))

-- the places of all set bits, ascending
abbrev pub set_places : List ℕ → List ℕ
set_places mask = heard_places mask (8 * length mask)
