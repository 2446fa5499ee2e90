-- Either there is no more room, or both coordinates go to the end of what is listed.
use mathlib.Core.List.{◌∷◌, []}
use Rattle.curve.proofs.Listing.{listed_one, listed_full}
use Rattle.curve.proofs.append.Goals as goal

pub returns-then-count-ge-ROOM : goal.returns-then-count-ge-ROOM
returns-then-count-ge-ROOM c = record { behind = λ points xs₀ ys₀ r l. listed_full l (c.args.p ∷ []) c.if-count-ge-ROOM.true }

pub returns : goal.returns
returns c = record { behind = λ points xs₀ ys₀ r l. listed_one l c.args.p r c.if-count-ge-ROOM.false }
