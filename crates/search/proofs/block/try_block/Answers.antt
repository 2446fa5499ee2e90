-- Where none is left the list of multiples is empty.
use Prim.Native.Nat.{◌-◌}
use Rattle.field.specs.Galois.{galois, size}
use Rattle.elliptic.specs.Pair.{add_scaled}
use Rattle.search.proofs.Improved.{improved_none, none_tried}
use Rattle.search.proofs.block.try_block.Goals as goal

pub returns-then-left-eq0 : goal.returns-then-left-eq0
returns-then-left-eq0 c =
    let F = galois c.args.field.now.number in
    let x = add_scaled F c.args.d c.args.late_row.now c.args.difference.now in
    improved_none c.args.found _ c.args.late c.args.d c.args.early
    (none_tried F c.args.trusts.now c.args.row.now x c.args.found.cost c.args.left (size c.args.field.now.number - 1) c.if-left-eq0.true)
