-- What the search keeps of the tries: the best so far, by the changes that it makes.
use Rattle.std.specs.Prelude.{ℕ, cond, List, eqb, set}
use Rattle.patterns.specs.Patterns.{none}
use Rattle.tries.specs.declared.choose.Multiple.{Multiple}
use Rattle.tries.specs.Multiples.{Priced}
use Rattle.search.specs.declared.block.Found.{Found}

-- the change that it makes, of k picked places: d at the later one and e at the earlier one, where 0 changes nothing
abbrev pub change_of : ℕ → Found → List ℕ
change_of k f = set (set (none k) f.late f.d) f.early f.e

abbrev pub priced_of : Multiple → Priced
priced_of b = (b.cost, b.e)

-- what is kept after the multiples of a row: the multiple 0 is none
abbrev pub improved : Found → Priced → ℕ → ℕ → ℕ → Found
improved f b late d early = cond (eqb b.1 0) f (record { cost = b.0; late = late; d = d; early = early; e = b.1 })

-- the try that changes nothing, at its cost
abbrev pub start : ℕ → Found
start c = record { cost = c; late = 0; d = 0; early = 0; e = 0 }
