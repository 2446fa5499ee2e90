-- Each pair of rows of the source passes the test, which antt computes.
use Prim.Native.Nat.{◌-◌}
use mathlib.Core.Path.{ap}
use mathlib.Core.List.{[], ◌∷◌}
use native.Mathlib.Omega.{arith}
use Rattle.field.specs.Galois.{rows}
use Rattle.field.specs.Tables.{byte_log_table}
use Rattle.field.proofs.Computed.{all_below, rows_test, tested, tested_back}
use Rattle.field.proofs.log_row.Goals as goal

pub overflow_sub-result : goal.overflow_sub-result
overflow_sub-result c = omega (arith, c.from-half.ensures)

pub returns-in-1 : goal.returns-in-1
unfolding byte_log_table rows_test all_below rows
returns-in-1 c = tested byte_log_table 1 (_ ∷ _ ∷ []) tt c.from-half.ensures c.in-1.is

pub returns-in-2 : goal.returns-in-2
unfolding byte_log_table rows_test all_below rows
returns-in-2 c = tested byte_log_table 2 (_ ∷ _ ∷ []) tt c.from-half.ensures c.in-2.is

pub returns-in-3 : goal.returns-in-3
unfolding byte_log_table rows_test all_below rows
returns-in-3 c = tested byte_log_table 3 (_ ∷ _ ∷ []) tt c.from-half.ensures c.in-3.is

pub returns-in_default : goal.returns-in_default
unfolding byte_log_table rows_test all_below rows
returns-in_default c =
    tested_back byte_log_table 4 _ _ tt (ap (λ half. 1 - half) c.from-half.ensures) (omega (arith, c.requires, c.in_default.in_default-own.rest.1, c.in_default.in_default-own.rest.0.1, c.in_default.in_default-own.rest.0.0.1))
