use native.Mathlib.Omega.{arith}
use Rattle.tries.proofs.Gathering.{pass_start, pass_end, pass_turn}
use Rattle.tries.proofs.gather.gather.Goals as goal

pub loop-i-init : goal.loop-i-init
loop-i-init c =
    pass_start c.args.field.now.number c.args.half c.args.log c.args.trusts.now c.args.row.now c.args.late.now c.args.difference.now c.requires.difference_len.4

pub loop-i-preserved : goal.loop-i-preserved
loop-i-preserved c =
    pass_turn c.args.field.now.number c.args.half c.args.log c.args.trusts.now c.args.row.now c.args.late.now c.args.difference.now c.loop-i.invariant
    c.requires.difference_len.2 c.requires.difference_len.1 c.requires.difference_len.0 (omega arith) (c.type_inv.trusts c.loop-i.i).fits c.product_by_log.ensures c.trust_if-cost.ensures.0 c.save.ensures

pub returns : goal.returns
returns c =
    pass_end c.args.field.now.number c.args.half c.args.log c.args.trusts.now c.args.row.now c.args.late.now c.args.difference.now c.loop-i.invariant (omega arith)
