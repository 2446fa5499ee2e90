-- Both parts are right over every coordinate that is listed, so over every point's.
use Rattle.evaluation.proofs.Passing.{all_joined}
use Rattle.evaluation.proofs.word.write_word.Goals as goal

pub returns : goal.returns
returns c =
    all_joined c.args.field.now.number c.args.f.now c.args.xs.now c.args.ys.now c.split.new.a c.split.new.b c.distinct-count.ensures c.split.ensures c.requires.out_in_bounds.0 c.join.ensures
