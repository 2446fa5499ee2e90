use Prim.Native.Nat.{◌<◌}
use mathlib.Core.Path.{◌≡◌, sym, ap, ◌∙◌}
use native.Mathlib.Omega.{arith}
use native.Mathlib.Nat.{zero-add}
use lib.ListN.{get_or}
use lib.Seq.{paste, paste-zero}
use Rattle.field.specs.Tables.{log_table}
use Rattle.field.proofs.Lookup.{length_logs, log_at_byte, wide_byte}
use Rattle.field.proofs.Pastes.{paste_turn}
use Rattle.field.proofs.put_logs.Goals as goal

pub loop-i-init : goal.loop-i-init
loop-i-init c = (omega arith, paste-zero c.args.out.now 0 (log_table c.args.m))

pub loop-i-preserved : goal.loop-i-preserved
loop-i-preserved c =
    let below : c.loop-i.i < 256 = omega arith in
    let entry : c.widened.result ≡ get_or (log_table c.args.m) c.loop-i.i 0 =
    c.widened.ensures ∙ rw c.requires.1 (wide_byte c.requires.0 c.loop-i.i below) ∙ sym (log_at_byte c.args.m c.loop-i.i below) in
    let turn = paste_turn c.args.out.now 0 (log_table c.args.m) c.loop-i.i (omega arith) (omega (arith, length_logs c.args.m)) c.loop-i.invariant.1 entry in
    (omega arith, rw zero-add at turn)

pub returns : goal.returns
returns c =
    let e : c.loop-i.i ≡ 256 = omega arith in
    c.loop-i.invariant.1 ∙ ap (paste c.args.out.now 0 (log_table c.args.m)) e
