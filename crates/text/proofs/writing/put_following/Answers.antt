use Prim.Native.Nat.{◌+◌, ◌<◌}
use mathlib.Core.List.{[], ◌∷◌, ◌++◌}
use native.Mathlib.Omega.{arith}
use lib.ListN.{length, get_or, drop}
use Rattle.text.specs.Text.{comma, decimal, following}
use Rattle.text.specs.Stages.{Appends}
use Rattle.text.proofs.Appending.{Leads, leads_start, leads_room, leads_on, leads_end, leads_as, following_next, following_done}
use Rattle.text.proofs.writing.put_following.Goals as goal

pub loop-i-init : goal.loop-i-init
loop-i-init c = leads_start c.requires

-- in a turn, and at the end
turn : (c : goal.After-put-arg-1) → c.loop-i.i < length c.args.l.now
    → Leads ((comma ∷ []) ++ (decimal (get_or c.args.l.now c.loop-i.i 0) ++ following (drop (c.loop-i.i + 1) c.args.l.now))) c.loop-i.out c.loop-i.at (following c.args.l.now) c.args.out.now c.args.start
turn c h = leads_as (following_next c.args.l.now c.loop-i.i h) c.loop-i.invariant

pub put-next-requires : goal.put-next-requires
put-next-requires c =
    omega (arith, leads_room (comma ∷ []) (decimal (get_or c.args.l.now c.loop-i.i 0) ++ following (drop (c.loop-i.i + 1) c.args.l.now)) (turn c (omega arith)))

-- in a turn, and at the end
turn_2 : (c : goal.After-shared_slice_known-in-loop-i-1) → c.loop-i.i < length c.args.l.now
    → Leads ((comma ∷ []) ++ (decimal (get_or c.args.l.now c.loop-i.i 0) ++ following (drop (c.loop-i.i + 1) c.args.l.now))) c.loop-i.out c.loop-i.at (following c.args.l.now) c.args.out.now c.args.start
turn_2 c h = leads_as (following_next c.args.l.now c.loop-i.i h) c.loop-i.invariant

pub put_number-at-requires : goal.put_number-at-requires
put_number-at-requires c =
    let n = decimal (get_or c.args.l.now c.loop-i.i 0) in
    let r = following (drop (c.loop-i.i + 1) c.args.l.now) in
    leads_room n r (leads_on (comma ∷ []) (n ++ r) (turn_2 c (omega arith)) c.put-next.ensures)

-- in a turn, and at the end
turn_3 : (c : goal.After-slice_known-in-loop-i-2-1) → c.loop-i.i < length c.args.l.now
    → Leads ((comma ∷ []) ++ (decimal (get_or c.args.l.now c.loop-i.i 0) ++ following (drop (c.loop-i.i + 1) c.args.l.now))) c.loop-i.out c.loop-i.at (following c.args.l.now) c.args.out.now c.args.start
turn_3 c h = leads_as (following_next c.args.l.now c.loop-i.i h) c.loop-i.invariant

pub loop-i-preserved : goal.loop-i-preserved
loop-i-preserved c =
    let n = decimal (get_or c.args.l.now c.loop-i.i 0) in
    let r = following (drop (c.loop-i.i + 1) c.args.l.now) in
    leads_on n r (leads_on (comma ∷ []) (n ++ r) (turn_3 c (omega arith)) c.put-next.ensures) c.put_number-at.ensures

ends : (c : goal.After-loop-i) → Appends (following c.args.l.now) c.args.out.now c.args.start c.loop-i.out c.loop-i.at
ends c = leads_end (leads_as (following_done c.args.l.now c.loop-i.i (omega arith)) c.loop-i.invariant)

pub shape_of-out : goal.shape_of-out
shape_of-out c = (ends c).size

pub returns : goal.returns
returns c = ends c
