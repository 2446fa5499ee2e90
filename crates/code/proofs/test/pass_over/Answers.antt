use Prim.Native.Nat.{ℕ, ◌<◌}
use mathlib.Core.Path.{◌≡◌, refl, sym, ◌∙◌, ap, ap₂}
use mathlib.Core.Bool.{◌&&◌}
use native.Mathlib.Omega.{arith}
use lib.Dec.{eqb, ltb}
use lib.ListN.{length, length-set}
use Rattle.basics.specs.Lists.{all, different, table}
use Rattle.field.specs.Galois.{galois}
use Rattle.elliptic.specs.Curve.{in_field, on_curve}
use Rattle.code.specs.Points.{is_point}
use Rattle.code.specs.Slots.{listed, slot_at}
use Rattle.code.proofs.Bounds.{bits_none, bits_next, all_both}
use Rattle.code.proofs.Marking.{marked_none, marked_next, all_next}
use Rattle.code.proofs.Repeats.{points_table}
use Rattle.code.proofs.test.pass_over.Goals as goal

pub loop-i-init : goal.loop-i-init
loop-i-init c = (omega arith, refl, bits_none c.args.field.now.number, refl, marked_none _ _ c.requires.xs_len.1)

pub bounds-ys-i : goal.bounds-ys-i
bounds-ys-i c = omega (arith, c.requires.xs_len.0)

inside : (c : goal.After-slice_known-in-loop-i-1-unread) → c.slot-s.result < length c.loop-i.seen
inside c = omega (arith, c.slot-s.ensures.1, c.loop-i.invariant.4.size)

pub bounds-seen-s : goal.bounds-seen-s
bounds-seen-s c = inside c

inside_2 : (c : goal.After-slice_known-in-loop-i-1) → c.slot-s.result < length c.loop-i.seen
inside_2 c = omega (arith, c.slot-s.ensures.1, c.loop-i.invariant.4.size)

pub bounds-seen-s-in-loop-i : goal.bounds-seen-s-in-loop-i
bounds-seen-s-in-loop-i c = inside_2 c

pub loop-i-preserved : goal.loop-i-preserved
loop-i-preserved c =
    let points = listed c.args.xs.now c.args.ys.now in (
      omega arith,
      simp length-set c.loop-i.invariant.1,
      bits_next c.args.field.now.number c.loop-i.bits (points c.loop-i.i) c.loop-i.invariant.2 ∙ all_next (in_field (galois c.args.field.now.number)) points c.loop-i.i,
      ap₂ ◌&&◌ c.loop-i.invariant.3 c.on_curve-on.ensures ∙ all_next (on_curve (galois c.args.field.now.number) c.args.c) points c.loop-i.i,
      rw c.slot-s.ensures.0 (marked_next (slot_at (galois c.args.field.now.number) c.args.c c.args.xs.now c.args.ys.now) _ c.loop-i.i c.loop-i.invariant.4 (omega (arith, c.slot-s.ensures.0, c.slot-s.ensures.1))),
    )

pub shape_of-seen : goal.shape_of-seen
shape_of-seen c = c.loop-i.invariant.1

pub returns : goal.returns
returns c =
    let points = listed c.args.xs.now c.args.ys.now in
    let inside = in_field (galois c.args.field.now.number) in
    let on = on_curve (galois c.args.field.now.number) c.args.c in
    let good = is_point (galois c.args.field.now.number) c.args.c in
    let e : c.loop-i.i ≡ length c.args.xs.now = omega arith in
    record {
      points =
          ap₂ ◌&&◌ (ap₂ ltb c.from.ensures c.size.ensures ∙ c.loop-i.invariant.2) c.loop-i.invariant.3 ∙ sym (all_both inside on (table points c.loop-i.i))
          ∙ ap (λ (k : ℕ). all good (table points k)) e ∙ ap (all good) (sym (points_table c.args.xs.now c.args.ys.now c.requires.xs_len.0));
      slots = c.loop-i.invariant.4.apart ∙ ap (λ (k : ℕ). different eqb (table (slot_at (galois c.args.field.now.number) c.args.c c.args.xs.now c.args.ys.now) k)) e;
    }
