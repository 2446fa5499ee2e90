use mathlib.Core.Path.{refl, sym, ◌∙◌}
use native.Mathlib.Omega.{arith}
use lib.ListN.{drop, length-drop}
use lib.Seq.{get_or-drop}
use Rattle.basics.specs.SetBits.{Bytes, little_endian}
use Rattle.basics.proofs.LittleEndian.{bytes_drop, little_more}
use Rattle.bitset.proofs.word.Goals as goal

pub loop-j-init : goal.loop-j-init
unfolding little_endian
loop-j-init c = refl

pub loop-j-preserved : goal.loop-j-preserved
loop-j-preserved c =
    let l = drop c.args.at c.args.bytes.now in
    let bytes : Bytes l = bytes_drop c.args.bytes.now c.args.at (λ i. (c.type_inv.bytes i).fits) in
    little_more 64 l c.loop-j.j bytes (rw length-drop (omega arith)) (omega arith) c.loop-j.invariant (c.from.ensures ∙ sym (get_or-drop c.args.at c.args.bytes.now c.loop-j.j 0))
