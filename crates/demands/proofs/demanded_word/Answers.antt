-- The contract of Systematic word is that this is a call of it, and demand 3 is of calls.
use Rattle.demands.proofs.Demand3.{demand3}
use Rattle.demands.proofs.demanded_word.Goals as goal

pub returns : goal.returns
returns c = λ done. (demand3 _ done).of_systematic_word _ _ _ c.systematic_word.ensures
