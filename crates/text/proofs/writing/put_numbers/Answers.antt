-- The first number, and then those behind it.
use mathlib.Core.List.{◌++◌}
use native.Mathlib.Omega.{arith}
use lib.ListN.{get_or, drop}
use Rattle.text.specs.Text.{decimal, following, joined}
use Rattle.text.proofs.Appending.{Leads, leads_start, leads_room, leads_on, leads_as, put_none, all_behind, joined_first, joined_none}
use Rattle.text.proofs.writing.put_numbers.Goals as goal

pub returns-then-l-eq0 : goal.returns-then-l-eq0
returns-then-l-eq0 c =
    rw (joined_none c.args.l.now c.if-l-eq0.true) (put_none c.args.out.now c.args.start)

starts : (c : goal.After-shared_slice_known-2-1) →
    Leads (decimal (get_or c.args.l.now 0 0) ++ following (drop 1 c.args.l.now)) c.args.out.now c.args.start (joined c.args.l.now) c.args.out.now c.args.start
starts c = leads_as (joined_first c.args.l.now (omega arith)) (leads_start c.requires)

pub put_number-next-requires : goal.put_number-next-requires
put_number-next-requires c = leads_room (decimal (get_or c.args.l.now 0 0)) (following (drop 1 c.args.l.now)) (starts c)

starts_2 : (c : goal.After-put_following-arg-2-1) →
    Leads (decimal (get_or c.args.l.now 0 0) ++ following (drop 1 c.args.l.now)) c.args.out.now c.args.start (joined c.args.l.now) c.args.out.now c.args.start
starts_2 c = leads_as (joined_first c.args.l.now (omega arith)) (leads_start c.requires)

pub put_following-requires : goal.put_following-requires
put_following-requires c =
    rw (all_behind c.args.l.now) (leads_on (decimal (get_or c.args.l.now 0 0)) (following (drop 1 c.args.l.now)) (starts_2 c) c.put_number-next.ensures).room

starts_3 : (c : goal.After-slice_known-3-1) →
    Leads (decimal (get_or c.args.l.now 0 0) ++ following (drop 1 c.args.l.now)) c.args.out.now c.args.start (joined c.args.l.now) c.args.out.now c.args.start
starts_3 c = leads_as (joined_first c.args.l.now (omega arith)) (leads_start c.requires)

pub returns : goal.returns
returns c =
    let n = decimal (get_or c.args.l.now 0 0) in
    let r = following (drop 1 c.args.l.now) in
    (leads_on n r (starts_3 c) c.put_number-next.ensures).completes _ _ (rw (all_behind c.args.l.now) at c.put_following.ensures)
