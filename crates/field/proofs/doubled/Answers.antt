-- The row twice, and the zeros that were there.
use mathlib.Core.Path.{refl, ap, ◌∙◌}
use native.Mathlib.Omega.{arith}
use lib.ListN.{length, replicate}
use lib.Seq.{length-paste}
use Rattle.field.specs.Tables.{power_table, exp_table}
use Rattle.field.proofs.Lookup.{length_powers}
use Rattle.field.proofs.Pastes.{paste_both}
use Rattle.field.proofs.doubled.Goals as goal

pub put_powers-requires : goal.put_powers-requires
put_powers-requires c = (ap length c.requires ∙ length_powers c.args.m, refl, omega arith)

pub put_powers-requires-2 : goal.put_powers-requires-2
put_powers-requires-2 c =
    let size = ap length c.requires ∙ length_powers c.args.m in
    let first = ap length c.put_powers.ensures ∙ length-paste (replicate 1021 0) 0 c.args.row.now 255 (omega arith) (omega arith) in
    (size, first, omega arith)

pub returns : goal.returns
unfolding exp_table
returns c =
    let size = length_powers c.args.m in
    c.put_powers-2.ensures ∙ rw (c.put_powers.ensures, c.requires) (paste_both (replicate 1021 0) (power_table c.args.m) (power_table c.args.m) 255 size size)
