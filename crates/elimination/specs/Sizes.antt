-- How much memory the second coder is lent.
use Rattle.std.specs.Prelude.{◌≡◌, ℕ, List, length}

-- 288 rows of 289 entries
abbrev pub Room : List ℕ → Type 0
Room rows = length rows ≡ 83232
