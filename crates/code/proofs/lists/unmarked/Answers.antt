use Prim.Native.Nat.{ℕ, ◌<◌}
use mathlib.Core.Path.{◌≡◌, refl, ◌∙◌, ap}
use native.Mathlib.Omega.{arith}
use borrow.Author.Tests.{ltb-true}
use lib.Dec.{eqb}
use lib.ListN.{length, length-set}
use Rattle.basics.specs.Lists.{different, table}
use Rattle.basics.proofs.Lists.{all_get, table_get}
use Rattle.code.specs.Lists.{is_below}
use Rattle.code.proofs.Marking.{element, marked_none, marked_next}
use Rattle.code.proofs.lists.unmarked.Goals as goal

pub loop-i-init : goal.loop-i-init
loop-i-init c = (omega arith, refl, marked_none _ _ c.requires.seen_value)

below : (c : goal.After-slice_known-in-loop-i-1-unread) → c.loop-i.i < length c.args.list.now → element c.args.list.now c.loop-i.i < 512
below c h = ltb-true _ _ (all_get (is_below 512) c.args.list.now 0 c.loop-i.i c.requires.list_value h)

inside : (c : goal.After-slice_known-in-loop-i-1-unread) → c.from-s.result < length c.loop-i.seen
inside c = omega (arith, c.from-s.ensures, below c (omega arith), c.loop-i.invariant.2.size)

pub bounds-seen-s : goal.bounds-seen-s
bounds-seen-s c = inside c

below_2 : (c : goal.After-slice_known-in-loop-i-1) → c.loop-i.i < length c.args.list.now → element c.args.list.now c.loop-i.i < 512
below_2 c h = ltb-true _ _ (all_get (is_below 512) c.args.list.now 0 c.loop-i.i c.requires.list_value h)

inside_2 : (c : goal.After-slice_known-in-loop-i-1) → c.from-s.result < length c.loop-i.seen
inside_2 c = omega (arith, c.from-s.ensures, below_2 c (omega arith), c.loop-i.invariant.2.size)

pub bounds-seen-s-in-loop-i : goal.bounds-seen-s-in-loop-i
bounds-seen-s-in-loop-i c = inside_2 c

pub loop-i-preserved : goal.loop-i-preserved
loop-i-preserved c = (
  omega arith,
  simp length-set c.loop-i.invariant.1,
  rw c.from-s.ensures (marked_next (element c.args.list.now) _ c.loop-i.i c.loop-i.invariant.2 (below_2 c (omega arith))),
)

pub shape_of-seen : goal.shape_of-seen
shape_of-seen c = c.loop-i.invariant.1

pub returns : goal.returns
returns c =
    let e : c.loop-i.i ≡ length c.args.list.now = omega arith in
    c.loop-i.invariant.2.apart ∙ ap (λ (k : ℕ). different eqb (table (element c.args.list.now) k)) e ∙ ap (different eqb) (table_get c.args.list.now 0)
