-- The text of a sheet, and which numbers it can say.
use Rattle.std.specs.Prelude.{ℕ, ◌≤◌, Bool, true, ◌≡◌, List, [], ◌∷◌, ◌++◌, ltb, length}
use Rattle.basics.specs.Lists.{all}
use Rattle.text.specs.Text.{line_of, field_key, curve_key, dimension_key, places_key, message_key}
use Rattle.text.specs.Reading.{Sheet}

-- the sheet of a job, as a works office writes it
unfoldable pub sheet_text : Sheet → List ℕ
sheet_text job =
    let h = job.head in
    line_of field_key (h.field ∷ []) ++ (line_of curve_key (h.g1 ∷ h.g2 ∷ h.g3 ∷ h.g4 ∷ h.g6 ∷ [])
    ++ (line_of dimension_key (h.k ∷ []) ++ (line_of places_key job.places ++ line_of message_key job.message)))

abbrev pub is_number : ℕ → Bool
is_number v = ltb v 65536

-- 1 to so many numbers below 65,536
pub record Numbers (most : ℕ) (l : List ℕ) : Type 0 where
  pub some : 1 ≤ length l
  pub few : length l ≤ most
  pub are : all is_number l ≡ true

pub record Valid (job : Sheet) : Type 0 where
  pub field : Numbers 1 (job.head.field ∷ [])
  pub curve : Numbers 5 (job.head.g1 ∷ job.head.g2 ∷ job.head.g3 ∷ job.head.g4 ∷ job.head.g6 ∷ [])
  pub dimension : Numbers 1 (job.head.k ∷ [])
  pub places : Numbers 288 job.places
  pub message : Numbers 288 job.message
  pub short : length (sheet_text job) ≤ 4096
