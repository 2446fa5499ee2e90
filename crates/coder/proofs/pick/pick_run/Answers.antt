-- The index of the last place decides: past the list it refuses, and else the place there is the last.
use Prim.Native.Nat.{◌-◌}
use mathlib.Core.Path.{◌≡◌, sym, ◌∙◌, ap}
use mathlib.Core.Bool.{cond}
use mathlib.Core.List.{[], ◌∷◌, ◌++◌}
use native.Mathlib.Omega.{arith}
use lib.ListN.{length, get_or, take}
use borrow.Author.Tests.{le-leb, lt-leb}
use Rattle.basics.proofs.Outcomes.{pass, refuse, accept_pair}
use Rattle.solving.proofs.Link.{accepted, no_symbols}
use Rattle.solving.proofs.Free.{not_free, is_free, index_lt, picked}
use Rattle.coder.proofs.pick.pick_run.Goals as goal

pub returns-then-ranked-code : goal.returns-then-ranked-code
returns-then-ranked-code c = refuse _ (lt-leb _ _ c.if-ranked-code.true)

pub last_index-last-requires : goal.last_index-last-requires
last_index-last-requires c = (accepted c.requires.placed.0).k_least

pub returns-then-last-ranked : goal.returns-then-last-ranked
returns-then-last-ranked c =
    pass _ (le-leb _ _ c.if-ranked-code.false) (refuse _ (not_free c.requires.placed.0 [] (no_symbols _) c.if-ranked-code.false c.last_zero-zero.ensures (sym c.last_index-last.ensures ∙ c.if-last-ranked.true)))

pub write_picked-requires : goal.write_picked-requires
write_picked-requires c =
    let i = index_lt c.requires.placed.0 [] (no_symbols _) c.if-ranked-code.false c.last_zero-zero.ensures (λ e. c.if-last-ranked.false (c.last_index-last.ensures ∙ e)) in
    (omega (arith, i, c.last_index-last.ensures), omega (arith, c.requires.placed.1, (accepted c.requires.placed.0).k_least), omega (arith, c.requires.placed.1, c.if-ranked-code.false))

pub returns : goal.returns
returns c =
    let inside : cond c.last_zero-zero.result c.args.code.now.k (c.args.code.now.k - 1) ≡ length c.args.ranked.now → ⊥ = λ e. c.if-last-ranked.false (c.last_index-last.ensures ∙ e) in
    pass _ (le-leb _ _ c.if-ranked-code.false) (pass _ (is_free c.requires.placed.0 [] (no_symbols _) c.if-ranked-code.false c.last_zero-zero.ensures inside)
    (accept_pair
    (c.write_picked.ensures ∙ ap (λ k. take (k - 1) c.args.ranked.now ++ get_or c.args.ranked.now c.last_index-last.result.0 0 ∷ []) c.requires.placed.1
    ∙ ap (λ i. take (c.args.code.now.k - 1) c.args.ranked.now ++ get_or c.args.ranked.now i 0 ∷ []) c.last_index-last.ensures ∙ sym (picked c.requires.placed.0 [] (no_symbols _) c.if-ranked-code.false c.last_zero-zero.ensures inside))
    c.clear_room.ensures))
