use Prim.Native.Nat.{◌+◌}
use mathlib.Core.List.{[], ◌∷◌}
use native.Mathlib.Omega.{arith}
use lib.ListN.{get_or, drop}
use Rattle.basics.proofs.Loops.{next}
use Rattle.text.proofs.Appending.{leads_start, leads_room, leads_on, leads_done, leads_as}
use Rattle.text.proofs.writing.put_bytes.Goals as goal

pub loop-i-init : goal.loop-i-init
loop-i-init c = leads_start c.requires

pub put-at-requires : goal.put-at-requires
put-at-requires c =
    let w = leads_as (next c.args.bytes.now 0 c.loop-i.i (omega arith)) c.loop-i.invariant in
    omega (arith, leads_room (get_or c.args.bytes.now c.loop-i.i 0 ∷ []) (drop (c.loop-i.i + 1) c.args.bytes.now) w)

pub loop-i-preserved : goal.loop-i-preserved
loop-i-preserved c =
    leads_on (get_or c.args.bytes.now c.loop-i.i 0 ∷ []) (drop (c.loop-i.i + 1) c.args.bytes.now) (leads_as (next c.args.bytes.now 0 c.loop-i.i (omega arith)) c.loop-i.invariant) c.put-at.ensures

pub shape_of-out : goal.shape_of-out
shape_of-out c =
    (leads_done c.args.bytes.now c.loop-i.i (omega arith) c.loop-i.invariant).size

pub returns : goal.returns
returns c =
    leads_done c.args.bytes.now c.loop-i.i (omega arith) c.loop-i.invariant
