use mathlib.Core.Path.{sym, ◌∙◌}
use native.Mathlib.Omega.{arith}
use mathlib.Core.List.{map}
use Rattle.basics.proofs.Loops.{same_fails, same_passes, same_ends}
use Rattle.field.specs.Galois.{galois}
use Rattle.elliptic.specs.Pair.{evaluate}
use Rattle.engine.specs.Places.{points_of}
use Rattle.engine.proofs.Runs.{value_at_lem, values_length}
use Rattle.interpolation.proofs.write.agrees.Goals as goal

pub point_at-p-requires : goal.point_at-p-requires
point_at-p-requires c =
    rw c.chosen_place-place.ensures (c.requires.within.0.each_is_place c.loop-i.i c.loop-i-test.true)

pub returns-then-value-message_symbol : goal.returns-then-value-message_symbol
returns-then-value-message_symbol c =
    let F = galois c.args.field.now.number in
    let point = rw c.chosen_place-place.ensures at c.point_at-p.ensures in
    let value = value_at_lem c.args.xs.now c.args.ys.now c.args.places.now c.loop-i.i c.loop-i-test.true F c.args.f.now point c.value.ensures in
    same_fails (map (evaluate F c.args.f.now) (points_of c.args.xs.now c.args.ys.now c.args.places.now)) c.args.symbols.now c.loop-i.i c.loop-i.invariant (rw (values_length c.args.xs.now c.args.ys.now c.args.places.now F c.args.f.now) c.loop-i-test.true) (omega (arith, c.loop-i-test.true, c.requires.within.1))
    (λ e. c.if-value-message_symbol.true (sym value ∙ e ∙ sym c.message_symbol.ensures))

pub loop-i-preserved : goal.loop-i-preserved
loop-i-preserved c =
    let F = galois c.args.field.now.number in
    let point = rw c.chosen_place-place.ensures at c.point_at-p.ensures in
    let value = value_at_lem c.args.xs.now c.args.ys.now c.args.places.now c.loop-i.i c.loop-i-test.true F c.args.f.now point c.value.ensures in
    same_passes (map (evaluate F c.args.f.now) (points_of c.args.xs.now c.args.ys.now c.args.places.now)) c.args.symbols.now c.loop-i.i c.loop-i.invariant (rw (values_length c.args.xs.now c.args.ys.now c.args.places.now F c.args.f.now) c.loop-i-test.true) (omega (arith, c.loop-i-test.true, c.requires.within.1))
    (value ∙ c.if-value-message_symbol.false ∙ c.message_symbol.ensures)

pub returns : goal.returns
returns c =
    let F = galois c.args.field.now.number in
    same_ends (map (evaluate F c.args.f.now) (points_of c.args.xs.now c.args.ys.now c.args.places.now)) c.args.symbols.now c.loop-i.i c.loop-i.invariant (rw (values_length c.args.xs.now c.args.ys.now c.args.places.now F c.args.f.now) c.loop-i-test.false) (omega (arith, c.loop-i-test.false, c.requires.within.1))
