-- How what the functions answer is read, and what they write.
use Prim.{Unit, tt}
use Rattle.std.specs.Prelude.{Option, Some, None, ℕ, ◌+◌, ◌≤◌, ◌≡◌, List, [], ◌++◌, length, take, drop}
use Rattle.basics.proofs.Loops.{Appended}
use Rattle.text.specs.declared.reading.Number.{Number}
use Rattle.text.specs.declared.reading.Listed.{Listed}
use Rattle.text.specs.declared.sheet.Head.{Head}
use Rattle.text.specs.declared.sheet.Header.{Header}
use Rattle.text.specs.declared.sheet.Parsed.{Parsed}
use Rattle.text.specs.Reading.{Read, bad, got, Sheet}

-- a position stands for the text from there on
abbrev pub found_in : List ℕ → Option ℕ → Read (Unit {0})
found_in s (Some next) = got tt (drop next s)
found_in s None = bad

abbrev pub number_in : List ℕ → Option Number → Read ℕ
number_in s (Some n) = got n.value (drop n.next s)
number_in s None = bad

-- so many numbers stand at the front of out
abbrev pub list_in : List ℕ → List ℕ → Option Listed → Read (List ℕ)
list_in s out (Some l) = got (take l.count out) (drop l.next s)
list_in s out None = bad

-- all of out was read
abbrev pub all_in : List ℕ → List ℕ → Option ℕ → Read (List ℕ)
all_in s out (Some next) = got out (drop next s)
all_in s out None = bad

abbrev pub count_of : Option Listed → ℕ
count_of (Some l) = l.count
count_of None = 0

-- what was read as r, with its numbers in out, is what the definition reads
pub record Lists (s out : List ℕ) (r : Option Listed) (read : Read (List ℕ)) : Type 0 where
  pub reads : list_in s out r ≡ read
  pub within : count_of r ≤ length out

abbrev pub header_in : List ℕ → Option Header → Read Head
header_in s (Some h) = got h.head (drop h.next s)
header_in s None = bad

-- the lists of a sheet stand at the front of two lists
abbrev pub sheet_in : List ℕ → List ℕ → Option Parsed → Read Sheet
sheet_in J msg (Some p) = got (record { head = p.head; places = take p.places J; message = take p.symbols msg }) []
sheet_in J msg None = bad

abbrev pub places_in : Option Parsed → ℕ
places_in (Some p) = p.places
places_in None = 0

abbrev pub symbols_in : Option Parsed → ℕ
symbols_in (Some p) = p.symbols
symbols_in None = 0

pub record Parses (J msg : List ℕ) (r : Option Parsed) (read : Read Sheet) : Type 0 where
  pub reads : sheet_in J msg r ≡ read
  pub places_within : places_in r ≤ length J
  pub symbols_within : symbols_in r ≤ length msg

-- the buffer out was written to up to n: whatever was appended to it so far, these bytes stand behind that now, up to n'
pub record Appends (bytes out : List ℕ) (n : ℕ) (out' : List ℕ) (n' : ℕ) : Type 0 where
  pub behind : (l old : List ℕ) → Appended l old out n → Appended (l ++ bytes) old out' n'
  pub count : n' ≡ n + length bytes
  pub size : length out' ≡ length out
