use mathlib.Core.Path.{◌∙◌, ap₂}
use mathlib.Core.Bool.{◌&&◌}
use native.Mathlib.Omega.{arith}
use lib.Dec.{ltb}
use Rattle.code.specs.Lists.{is_below}
use Rattle.code.proofs.Marking.{element, all_next, all_ends}
use Rattle.code.proofs.lists.all_below.Goals as goal

pub loop-symbol-preserved : goal.loop-symbol-preserved
loop-symbol-preserved c =
    ap₂ (λ b u. b && ltb u c.args.q) c.loop-symbol.invariant c.from-u.ensures ∙ all_next (is_below c.args.q) (element c.args.symbols.now) c.loop-symbol.symbol-index

pub returns : goal.returns
returns c =
    all_ends (is_below c.args.q) c.args.symbols.now c.loop-symbol.symbol-index c.loop-symbol.invariant (omega arith)
