use Prim.Native.Nat.{◌+◌}
use mathlib.Core.Path.{◌≡◌, sym, ◌∙◌}
use mathlib.Core.Bool.{and-true, and_assoc}
use native.Mathlib.Omega.{arith}
use lib.ListN.{get_or, drop, drop_of_length-le}
use Rattle.basics.specs.Lists.{all}
use Rattle.basics.proofs.Loops.{next}
use Rattle.hours.specs.Packing.{is_code}
use Rattle.rolling.proofs.state.all_codes.Goals as goal

pub loop-code-preserved : goal.loop-code-preserved
loop-code-preserved c =
    let i = c.loop-code.code-index in
    let said : c.is_code-good.result ≡ is_code (get_or c.args.codes.now i 0) = rw (← c.from.ensures) c.is_code-good.ensures in
    rw said (and_assoc c.loop-code.good (is_code (get_or c.args.codes.now i 0)) (all is_code (drop (i + 1) c.args.codes.now)))
    ∙ rw (next c.args.codes.now 0 i (omega arith)) at c.loop-code.invariant

pub returns : goal.returns
returns c =
    sym (and-true c.loop-code.good) ∙ rw (drop_of_length-le c.args.codes.now {i = c.loop-code.code-index} (omega arith)) at c.loop-code.invariant
