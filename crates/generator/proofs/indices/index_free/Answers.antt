use Rattle.generator.proofs.Symbols.{indexed_turn, indexed_all}
use Rattle.generator.proofs.indices.index_free.Goals as goal

pub loop-s-preserved : goal.loop-s-preserved
loop-s-preserved c = indexed_turn c.requires.0 c.loop-s.invariant c.loop-s-test.true c.low_byte.ensures
    c.high_byte.ensures c.from-s.ensures

pub returns : goal.returns
returns c = indexed_all c.requires.0 c.loop-s.invariant c.loop-s-test.false
