use mathlib.Core.Path.{◌≡◌, refl, ◌∙◌}
use native.Mathlib.Omega.{arith}
use lib.ListN.{get_or}
use Rattle.elliptic.specs.Pair.{after}
use Rattle.values.proofs.Runs.{begins, begins_word, begun_size, fits, point_more}
use Rattle.values.proofs.run.run.Goals as goal

pub loop-i-init : goal.loop-i-init
unfolding after
loop-i-init c =
    let p = begins c.args.field.now.tables.field c.requires.coordinates.0 c.first_sizes-n.ensures.0 c.first_sizes-n.ensures.1 c.first_sizes-n.ensures.2 c.requires.coordinates.1 refl in
    (p, begins_word c.args.field.now.tables.field c.requires.coordinates.0 (c.clear.auto.f ∙ c.requires.coordinates.2) (rw (← c.clear.auto.f) at c.clear.ensures))

pub word_turn-n-requires : goal.word_turn-n-requires
word_turn-n-requires c =
    let room = fits (c.loop-i.auto.l ∙ begun_size c.requires.coordinates.0 c.requires.coordinates.1) (c.loop-i.auto.u ∙ c.requires.coordinates.0.as_many) (c.requires.runs_with.0.small c.loop-i.i c.loop-i-test.true) c.loop-i.invariant.0 in
    record { j_in_bounds = (omega (arith, c.requires.runs_with.0.enough), room, c.loop-i.auto.f ∙ c.clear.auto.f ∙ c.requires.coordinates.2) }

pub loop-i-preserved : goal.loop-i-preserved
loop-i-preserved c =
    let r = rw c.message_symbol-v.ensures at c.word_turn-n.ensures in
    let pair = r.pair.next c.args.u.now c.loop-i.i _ (get_or c.args.symbols.now c.loop-i.i 0) (omega arith) (omega arith) (c.requires.runs_with.0.small c.loop-i.i c.loop-i-test.true) c.loop-i.invariant.0 in
    let word = r.next c.args.u.now c.loop-i.i _ (omega arith) (omega arith) c.loop-i.invariant.0 c.loop-i.invariant.1 in
    let more = point_more c.args.field.now.number c.args.xs.now c.args.u.now c.args.symbols.now c.loop-i.i (omega (arith, c.requires.runs_with.0.enough)) in
    (rw more at pair, rw more at word)

pub returns : goal.returns
returns c = let full : c.loop-i.i ≡ c.args.count = omega arith in rw (← full) c.loop-i.invariant
