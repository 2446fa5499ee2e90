use mathlib.Core.Path.{◌≡◌, ap}
use native.Mathlib.Omega.{arith}
use Rattle.basics.specs.Lists.{filter}
use Rattle.field.specs.Galois.{size, galois}
use Rattle.elliptic.specs.Curve.{columns, on_curve, affine_points}
use Rattle.curve.proofs.Listing.{listed_as, column_turn}
use Rattle.curve.proofs.fill_points.Goals as goal

pub loop-x-preserved : goal.loop-x-preserved
loop-x-preserved c =
    column_turn (on_curve (galois c.args.field.now.number) c.args.c) (size c.args.field.now.number) c.loop-x.x c.requires.c_value.1 c.loop-x.invariant c.append_over-count.ensures

pub returns : goal.returns
unfolding affine_points
returns c =
    let whole : c.loop-x.x ≡ size c.args.field.now.number = omega arith in
    listed_as c.loop-x.invariant (ap (λ n. filter (on_curve (galois c.args.field.now.number) c.args.c) (columns (size c.args.field.now.number) n)) whole)
