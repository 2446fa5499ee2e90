-- A scan, no point, or two, as was found.
use Rattle.curve.proofs.Listing.{appends_none}
use Rattle.curve.proofs.append_over.Goals as goal

pub returns-then-y-eq0 : goal.returns-then-y-eq0
returns-then-y-eq0 c =
    rw (c.requires.0.no_point c.trace-t.ensures c.if-t-eq0.false c.if-y-eq0.true) (appends_none _ _ _)
