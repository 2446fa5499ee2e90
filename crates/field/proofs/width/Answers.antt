-- The constant table holds the definition's row for each field number.
use mathlib.Core.List.{[], ◌∷◌}
use Rattle.field.proofs.Computed.{all_below, numbers_test, by_number}
use Rattle.field.specs.Galois.{rows, width}
use Rattle.field.proofs.width.Goals as goal

pub returns : goal.returns
unfolding width rows numbers_test all_below
returns c = by_number width (_ ∷ _ ∷ _ ∷ _ ∷ _ ∷ _ ∷ _ ∷ _ ∷ _ ∷ _ ∷ []) tt c.from.ensures c.requires
