use Rattle.generator.proofs.Symbols.{completing_none, completing_over, completing_away, completing_all}
use Rattle.generator.proofs.entries.complete_row.Goals.{then-xs-s, else-xs-s}
use Rattle.generator.proofs.entries.complete_row.Goals as goal

pub loop-s-init : goal.loop-s-init
loop-s-init c =
    completing_none c.args.index.0 c.args.count c.args.xs.now c.args.a.now c.args.b.now c.args.sums.now c.args.row.now

pub loop-s-preserved : goal.loop-s-preserved
loop-s-preserved c =
    elim c.if-xs-s.branch [
      | then-xs-s w ↦ rw w.row-is (completing_over c.args.index.0 c.args.count c.args.xs.now c.args.a.now c.args.b.now c.args.sums.now c.args.row.now c.loop-s.auto.s c.loop-s-test.true c.loop-s.invariant w.if-xs-s.true w.index_in-i.ensures)
      | else-xs-s w ↦ rw w.row-is (completing_away c.args.index.0 c.args.count c.args.xs.now c.args.a.now c.args.b.now c.args.sums.now c.args.row.now c.loop-s.auto.s c.loop-s-test.true c.loop-s.invariant w.if-xs-s.false)
    ]

pub returns : goal.returns
returns c =
    completing_all c.args.index.0 c.args.count c.args.xs.now c.args.a.now c.args.b.now c.args.sums.now c.args.row.now c.loop-s-test.false c.loop-s.auto.row c.index_of.ensures c.loop-s.invariant
