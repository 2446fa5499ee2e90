use mathlib.Core.Path.{◌∙◌}
use native.Mathlib.Omega.{arith}
use borrow.Author.Rules.{rules}
use lib.Seq.{take_all}
use Rattle.rolling.specs.Bytes.{in_bytes}
use Rattle.rolling.proofs.InBytes.{number_stored, held_all}
use Rattle.rolling.proofs.bytes.store_codes.Goals as goal

pub loop-i-init : goal.loop-i-init
unfolding in_bytes
loop-i-init c = search rules

pub loop-i-preserved : goal.loop-i-preserved
loop-i-preserved c =
    number_stored 2 c.args.codes.now c.loop-i.out c.loop-i.i c.from.result (omega arith) (omega arith) c.store_number.ensures c.from.ensures c.loop-i.invariant

pub returns : goal.returns
returns c =
    held_all c.loop-i.invariant (omega arith) ∙ rw (take_all c.loop-i.i c.args.codes.now (omega arith))
