use Prim.Native.Nat.{ℕ}
use mathlib.Core.Path.{◌≡◌, ◌∙◌, ap}
use lib.ListN.{replicate, length-replicate}
use Rattle.std.proofs.Common.{rules}
use Rattle.std.proofs.lemmas.List.{get_or-replicate}
use Rattle.basics.specs.Lists.{table}
use Rattle.basics.proofs.Lists.{is_table}
use Rattle.values.specs.Values.{one}
use Rattle.arrangement.proofs.arrange.fill_ones.Goals as goal

ones : (n : ℕ) → replicate n 1 ≡ table one n
ones n = is_table one (replicate n 1) 0 (λ i l. get_or-replicate n i 1 0 (rw length-replicate at l)) ∙ ap (table one) (length-replicate n 1)

pub returns : goal.returns
returns c = c.fill.ensures.after (λ y e. search rules) ∙ ones _
