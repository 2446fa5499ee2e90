-- The constant table holds the definition's row for each field number.
use mathlib.Core.List.{[], ◌∷◌}
use Rattle.field.proofs.Computed.{all_below, numbers_test, by_number}
use Rattle.field.specs.Galois.{rows, modulus}
use Rattle.field.proofs.modulus.Goals as goal

pub returns : goal.returns
unfolding modulus rows numbers_test all_below
returns c = by_number modulus (_ ∷ _ ∷ _ ∷ _ ∷ _ ∷ _ ∷ _ ∷ _ ∷ _ ∷ _ ∷ []) tt c.from.ensures c.requires
