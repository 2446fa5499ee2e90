use mathlib.Core.Path.{◌≡◌, refl, sym, ◌∙◌, ap}
use Prim.Native.Nat.{◌-◌}
use native.Mathlib.Omega.{arith}
use Rattle.basics.specs.Lists.{table}
use Rattle.elliptic.specs.Pair.{after}
use Rattle.values.specs.Values.{one}
use Rattle.values.proofs.Runs.{begins, fits}
use Rattle.generator.proofs.Turns.{rows_sized}
use Rattle.generator.proofs.Progress.{rows_order}
use Rattle.generator.proofs.run.run_rows.Goals as goal

pub loop-i-init : goal.loop-i-init
unfolding after
loop-i-init c =
    let p = begins c.args.field.now.tables.field c.requires.coordinates.0 c.first_sizes-n.ensures.0 c.first_sizes-n.ensures.1 c.first_sizes-n.ensures.2 (c.fill_ones.ensures ∙ ap (table one) (c.requires.coordinates.1 ∙ sym c.requires.coordinates.0.as_many)) refl in
    (omega arith, p, record { row = λ j l. absurd (omega arith); whole = λ l. absurd (omega arith) })

pub advance_turn-d-requires : goal.advance_turn-d-requires
advance_turn-d-requires c =
    let room = fits (c.loop-i.auto.l ∙ c.fill_ones.auto.out ∙ c.requires.coordinates.1) (c.loop-i.auto.u ∙ c.requires.coordinates.0.as_many) (c.requires.runs_first.0.small c.loop-i.i (omega (arith, c.loop-i-test.true))) c.loop-i.invariant.1 in
    record { index_lt_limit = (c.loop-i-test.true, omega (arith, c.requires.coordinates.2.points), room, rows_sized (omega arith) c.loop-i.auto.a c.loop-i.auto.b c.requires.coordinates.2, c.requires.coordinates.4) }

pub loop-i-preserved : goal.loop-i-preserved
loop-i-preserved c =
    let next = c.advance_turn-d.ensures.next c.args.u.now c.args.count (omega arith) c.requires.runs_first.0 c.requires.runs_first.1 c.loop-i.invariant.1 (rows_order c.args.field.now.tables.field c.loop-i.n.turned c.loop-i.invariant.2) in
    (c.advance_turn-d.ensures.within, next.0, next.1)

pub returns : goal.returns
returns c =
    let full : c.loop-i.i ≡ c.args.count - 1 = omega arith in
    rw (← full) (c.loop-i.invariant.1, c.loop-i.invariant.2)
