-- `◌⊕◌` is the machine's exclusive or.
use mathlib.Core.Path.{refl}
use Rattle.field.specs.Sum.{◌⊕◌}
use Rattle.field.proofs.add.Goals as goal

pub returns : goal.returns
unfolding ◌⊕◌
returns c = refl
