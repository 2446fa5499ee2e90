use Prim.Native.Nat.{ℕ, ◌+◌, ◌*◌, ◌^◌, ◌≤◌, ◌<◌}
use mathlib.Core.Path.{◌≡◌, subst}
use mathlib.Core.List.{List}
use native.Mathlib.Omega.{arith}
use lib.Count.{ones}
use lib.ListN.{length}
use Rattle.basics.specs.SetBits.{Bytes}
use Rattle.basics.proofs.Loops.{Appended, appended_none}
use Rattle.code.specs.Heard.{heard_places}
use Rattle.code.proofs.Words.{room_more, places_appended}
use Rattle.code.proofs.heard.fill_heard.Goals as goal

pub loop-i-init : goal.loop-i-init
loop-i-init c = (omega arith, appended_none _)

abbrev mask : (c : goal.After-list_set-arg-1) → List ℕ
mask c = c.args.mask.now

bytes : (c : goal.After-list_set-arg-1) → Bytes (mask c)
bytes c i = (c.type_inv.mask i).fits

fits : (c : goal.After-list_set-arg-1) → c.word.result < 2 ^ 64
fits c = omega arith

room : (c : goal.After-list_set-arg-1) → c.loop-i.count + ones c.word.result ≤ length c.args.out.now
room c =
    room_more (mask c) (bytes c) c.loop-i.i c.word.ensures (fits c) (length c.args.out.now) (omega (arith, c.loop-i-test.true)) c.requires.0 c.requires.1 c.loop-i.invariant.1.count

pub list_set-count-requires : goal.list_set-count-requires
list_set-count-requires c = (omega (arith, room c, c.loop-i.invariant.1.size), omega arith)

abbrev mask_2 : (c : goal.After-slice_known-in-loop-i-1) → List ℕ
mask_2 c = c.args.mask.now

bytes_2 : (c : goal.After-slice_known-in-loop-i-1) → Bytes (mask_2 c)
bytes_2 c i = (c.type_inv.mask i).fits

fits_2 : (c : goal.After-slice_known-in-loop-i-1) → c.word.result < 2 ^ 64
fits_2 c = omega arith

room_2 : (c : goal.After-slice_known-in-loop-i-1) → c.loop-i.count + ones c.word.result ≤ length c.args.out.now
room_2 c =
    room_more (mask_2 c) (bytes_2 c) c.loop-i.i c.word.ensures (fits_2 c) (length c.args.out.now) (omega (arith, c.loop-i-test.true)) c.requires.0 c.requires.1 c.loop-i.invariant.1.count

pub loop-i-preserved : goal.loop-i-preserved
loop-i-preserved c = (
  omega arith,
  places_appended (mask_2 c) (bytes_2 c) c.loop-i.i c.word.ensures (fits_2 c) (room_2 c) c.list_set-count.ensures.0 c.list_set-count.ensures.1 c.loop-i.invariant.1,
)

pub shape_of-out : goal.shape_of-out
shape_of-out c = c.loop-i.invariant.1.size

pub returns : goal.returns
returns c =
    let end : 64 * c.loop-i.i ≡ 8 * length c.args.mask.now = omega arith in
    let done = subst (λ m. Appended (heard_places c.args.mask.now m) c.args.out.now c.loop-i.out c.loop-i.count) end c.loop-i.invariant.1 in
    (done.count, done.holds)
