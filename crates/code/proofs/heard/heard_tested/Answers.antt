-- Test after test, and then the callee fills the buffer.
use Prim.Native.Nat.{◌≤◌}
use mathlib.Core.Path.{◌≡◌, sym, ◌∙◌, ap}
use mathlib.Core.Bool.{true}
use native.Mathlib.Omega.{arith}
use borrow.Author.Tests.{eq-eqb, ne_eqb}
use lib.ListN.{length}
use Rattle.basics.specs.Lists.{written}
use Rattle.basics.proofs.Outcomes.{pass, refuse, count}
use Rattle.code.specs.Heard.{heard_places, none_past}
use Rattle.code.specs.Words.{set_places}
use Rattle.code.proofs.Words.{set_places_few, set_places_lem}
use Rattle.code.proofs.heard.heard_tested.Goals as goal

pub returns-then-mask-ne40 : goal.returns-then-mask-ne40
returns-then-mask-ne40 c = refuse _ (ne_eqb _ _ c.if-mask-ne40.true)

pub returns-then-out-ne288 : goal.returns-then-out-ne288
returns-then-out-ne288 c = pass _ (eq-eqb _ _ c.if-mask-ne40.false) (refuse _ (ne_eqb _ _ c.if-out-ne288.true))

pub returns-then-not-none_past : goal.returns-then-not-none_past
returns-then-not-none_past c = pass _ (eq-eqb _ _ c.if-mask-ne40.false) (pass _ (eq-eqb _ _ c.if-out-ne288.false)
    (refuse _ (sym c.none_past.ensures ∙ c.if-not-none_past.true)))

none : (c : goal.After-fill_heard-arg-1) → none_past c.args.mask.now c.args.n ≡ true
none c = sym c.none_past.ensures ∙ c.if-not-none_past.false

few : (c : goal.After-fill_heard-arg-1) → length (set_places c.args.mask.now) ≤ 288
few c = set_places_few c.args.mask.now c.args.n c.if-mask-ne40.false c.requires (none c)

pub fill_heard-count-requires : goal.fill_heard-count-requires
fill_heard-count-requires c = (c.if-mask-ne40.false, omega (arith, few c, c.if-out-ne288.false))

none_2 : (c : goal.After-slice_known-2-1) → none_past c.args.mask.now c.args.n ≡ true
none_2 c = sym c.none_past.ensures ∙ c.if-not-none_past.false

places : (c : goal.After-slice_known-2-1) → set_places c.args.mask.now ≡ heard_places c.args.mask.now c.args.n
places c = set_places_lem c.args.mask.now c.args.n c.if-mask-ne40.false (omega arith) (none_2 c)

pub returns : goal.returns
returns c =
    pass _ (eq-eqb _ _ c.if-mask-ne40.false) (pass _ (eq-eqb _ _ c.if-out-ne288.false)
    (pass _ (none_2 c) (count (c.fill_heard-count.ensures.0 ∙ ap length (places c)) (c.fill_heard-count.ensures.1 ∙ ap (λ l. written l c.args.out.now) (places c)))))
