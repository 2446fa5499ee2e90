-- The byte goes behind what was written.
use Rattle.text.proofs.Appending.{put_one}
use Rattle.text.proofs.writing.put.Goals as goal

pub returns : goal.returns
returns c = put_one _ _ _ c.requires
