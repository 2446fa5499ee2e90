use mathlib.Core.Path.{refl, sym, ◌∙◌}
use mathlib.Core.List.{map}
use native.Mathlib.Omega.{arith}
use lib.ListN.{length-map}
use Rattle.basics.proofs.Loops.{same_fails, same_passes, same_ends}
use Rattle.codewords.specs.Codewords.{symbol_at, agrees}
use Rattle.solving.proofs.words.agrees_at.Invariants.{symbol, read}
use Rattle.solving.proofs.words.agrees_at.Goals as goal

pub loop-i-init : goal.loop-i-init
unfolding agrees symbol_at
loop-i-init c = refl

pub returns-then-f-index_of : goal.returns-then-f-index_of
returns-then-f-index_of c =
    same_fails (map (symbol c.args.f.now) c.args.places.now) c.args.symbols.now c.loop-i.i c.loop-i.invariant (rw (length-map c.args.places.now (symbol c.args.f.now)) c.loop-i-test.true) (omega (arith, c.loop-i-test.true, c.requires.1))
    (λ e. c.if-f-index_of.true (sym (read c.args.f.now c.args.places.now c.loop-i.i c.loop-i-test.true c.chosen_place-place.ensures c.index_of.ensures) ∙ e ∙ sym c.message_symbol.ensures))

pub loop-i-preserved : goal.loop-i-preserved
loop-i-preserved c =
    same_passes (map (symbol c.args.f.now) c.args.places.now) c.args.symbols.now c.loop-i.i c.loop-i.invariant (rw (length-map c.args.places.now (symbol c.args.f.now)) c.loop-i-test.true) (omega (arith, c.loop-i-test.true, c.requires.1))
    (read c.args.f.now c.args.places.now c.loop-i.i c.loop-i-test.true c.chosen_place-place.ensures c.index_of.ensures ∙ c.if-f-index_of.false ∙ c.message_symbol.ensures)

pub returns : goal.returns
returns c =
    same_ends (map (symbol c.args.f.now) c.args.places.now) c.args.symbols.now c.loop-i.i c.loop-i.invariant (rw (length-map c.args.places.now (symbol c.args.f.now)) c.loop-i-test.false) (omega (arith, c.loop-i-test.false, c.requires.1))
