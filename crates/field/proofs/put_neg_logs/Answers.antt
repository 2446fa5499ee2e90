use Prim.Native.Nat.{◌<◌}
use mathlib.Core.Path.{◌≡◌, sym, ap, ◌∙◌}
use native.Mathlib.Omega.{arith}
use lib.ListN.{get_or}
use lib.Seq.{paste, paste-zero}
use Rattle.field.specs.Tables.{neg_log_table}
use Rattle.field.proofs.Lookup.{length_neg_logs, neg_at_byte, byte_le, negated_byte}
use Rattle.field.proofs.Pastes.{paste_turn}
use Rattle.field.proofs.put_neg_logs.Goals as goal

pub loop-i-init : goal.loop-i-init
loop-i-init c = (omega arith, paste-zero c.args.out.now 256 (neg_log_table c.args.m))

pub negated-requires : goal.negated-requires
negated-requires c =
    rw (c.requires.1, c.period-period.ensures) (byte_le c.requires.0 c.loop-i.i (omega arith))

pub loop-i-preserved : goal.loop-i-preserved
loop-i-preserved c =
    let below : c.loop-i.i < 256 = omega arith in
    let entry : c.negated.result ≡ get_or (neg_log_table c.args.m) c.loop-i.i 0 =
    c.negated.ensures ∙ rw (c.requires.1, c.period-period.ensures) (negated_byte c.requires.0 c.loop-i.i below) ∙ sym (neg_at_byte c.args.m c.loop-i.i below) in
    (omega arith, paste_turn c.args.out.now 256 (neg_log_table c.args.m) c.loop-i.i (omega arith) (omega (arith, length_neg_logs c.args.m)) c.loop-i.invariant.1 entry)

pub returns : goal.returns
returns c =
    let e : c.loop-i.i ≡ 256 = omega arith in
    c.loop-i.invariant.1 ∙ ap (paste c.args.out.now 256 (neg_log_table c.args.m)) e
