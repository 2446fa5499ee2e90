-- One point after the other.
use mathlib.Core.Path.{◌≡◌, ap, ◌∙◌}
use Rattle.field.specs.Sum.{◌⊕◌}
use Rattle.curve.specs.Roots.{lesser}
use Rattle.curve.proofs.Listing.{appends_both}
use Rattle.curve.proofs.append_pair.Goals as goal

pub returns : goal.returns
returns c =
    let low : c.lesser-low.result ≡ lesser c.args.y (c.args.y ⊕ c.args.t) = c.lesser-low.ensures ∙ ap (lesser c.args.y) c.add.ensures in
    rw (← low, ← c.add-high.ensures) (appends_both c.append-count.ensures c.append.ensures)
