-- The logarithms, and behind them those of the inverses: nothing is left of what was there.
use mathlib.Core.Path.{refl, ap, ◌∙◌}
use mathlib.Core.List.{append-nil, ◌++◌}
use native.Mathlib.Omega.{arith}
use lib.ListN.{length, replicate}
use lib.Seq.{length-paste}
use Rattle.field.specs.Tables.{log_table, neg_log_table, log_tables}
use Rattle.field.proofs.Lookup.{length_logs, length_neg_logs}
use Rattle.field.proofs.Pastes.{paste_both}
use Rattle.field.proofs.with_negated.Goals as goal

pub put_logs-requires : goal.put_logs-requires
put_logs-requires c = (c.requires.0, c.requires.1, refl)

pub put_neg_logs-requires : goal.put_neg_logs-requires
put_neg_logs-requires c =
    (c.requires.0, c.requires.1, ap length c.put_logs.ensures ∙ length-paste (replicate 512 0) 0 (log_table c.args.m) 256 (omega arith) (omega (arith, length_logs c.args.m)))

pub returns : goal.returns
unfolding log_tables
returns c =
    c.put_neg_logs.ensures
    ∙ rw c.put_logs.ensures (paste_both (replicate 512 0) (log_table c.args.m) (neg_log_table c.args.m) 256 (length_logs c.args.m) (length_neg_logs c.args.m) ∙ append-nil (log_table c.args.m ++ neg_log_table c.args.m))
