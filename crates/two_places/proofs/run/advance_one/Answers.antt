-- One step is a way to go on.
use Rattle.two_places.proofs.Runs.{advances_one}
use Rattle.two_places.proofs.run.advance_one.Goals as goal

pub returns : goal.returns
returns c =
    advances_one c.requires.i_lt_count.1 c.requires.i_lt_count.0 c.pair_step-sizes.ensures.0
