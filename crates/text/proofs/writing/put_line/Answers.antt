-- Key, numbers and line end, one after the other.
use mathlib.Core.Path.{refl}
use mathlib.Core.List.{[], ◌∷◌, ◌++◌}
use native.Mathlib.Omega.{arith}
use Rattle.text.specs.Text.{line_end, joined, line_of}
use Rattle.text.proofs.Appending.{Leads, leads_start, leads_room, leads_on, leads_last}
use Rattle.text.proofs.writing.put_line.Goals as goal

-- what is left to write
starts : (c : goal.After-put_bytes-arg-1) → Leads (c.args.key.now ++ (joined c.args.l.now ++ line_end ∷ [])) c.args.out.now c.args.start (line_of c.args.key.now c.args.l.now) c.args.out.now c.args.start
unfolding line_of
starts c = leads_start c.requires

pub put_bytes-first-requires : goal.put_bytes-first-requires
put_bytes-first-requires c = leads_room c.args.key.now (joined c.args.l.now ++ line_end ∷ []) (starts c)

-- what is left to write
starts_2 : (c : goal.After-put_numbers-arg-1) → Leads (c.args.key.now ++ (joined c.args.l.now ++ line_end ∷ [])) c.args.out.now c.args.start (line_of c.args.key.now c.args.l.now) c.args.out.now c.args.start
unfolding line_of
starts_2 c = leads_start c.requires

after_key : (c : goal.After-put_numbers-arg-1) → Leads (joined c.args.l.now ++ line_end ∷ []) c.put_bytes-first.new.out c.put_bytes-first.result (line_of c.args.key.now c.args.l.now) c.args.out.now c.args.start
after_key c = leads_on c.args.key.now (joined c.args.l.now ++ line_end ∷ []) (starts_2 c) c.put_bytes-first.ensures

pub put_numbers-end-requires : goal.put_numbers-end-requires
put_numbers-end-requires c = leads_room (joined c.args.l.now) (line_end ∷ []) (after_key c)

-- what is left to write
starts_3 : (c : goal.After-put-arg-1) → Leads (c.args.key.now ++ (joined c.args.l.now ++ line_end ∷ [])) c.args.out.now c.args.start (line_of c.args.key.now c.args.l.now) c.args.out.now c.args.start
unfolding line_of
starts_3 c = leads_start c.requires

after_key_2 : (c : goal.After-put-arg-1) → Leads (joined c.args.l.now ++ line_end ∷ []) c.put_bytes-first.new.out c.put_bytes-first.result (line_of c.args.key.now c.args.l.now) c.args.out.now c.args.start
after_key_2 c = leads_on c.args.key.now (joined c.args.l.now ++ line_end ∷ []) (starts_3 c) c.put_bytes-first.ensures

after_numbers : (c : goal.After-put-arg-1) → Leads (line_end ∷ []) c.put_numbers-end.new.out c.put_numbers-end.result (line_of c.args.key.now c.args.l.now) c.args.out.now c.args.start
after_numbers c = leads_on (joined c.args.l.now) (line_end ∷ []) (after_key_2 c) c.put_numbers-end.ensures

pub put-requires : goal.put-requires
put-requires c = omega (arith, leads_room (line_end ∷ []) [] (after_numbers c))

-- what is left to write
starts_4 : (c : goal.After-slice_known-4-1) → Leads (c.args.key.now ++ (joined c.args.l.now ++ line_end ∷ [])) c.args.out.now c.args.start (line_of c.args.key.now c.args.l.now) c.args.out.now c.args.start
unfolding line_of
starts_4 c = leads_start c.requires

after_key_3 : (c : goal.After-slice_known-4-1) → Leads (joined c.args.l.now ++ line_end ∷ []) c.put_bytes-first.new.out c.put_bytes-first.result (line_of c.args.key.now c.args.l.now) c.args.out.now c.args.start
after_key_3 c = leads_on c.args.key.now (joined c.args.l.now ++ line_end ∷ []) (starts_4 c) c.put_bytes-first.ensures

after_numbers_2 : (c : goal.After-slice_known-4-1) → Leads (line_end ∷ []) c.put_numbers-end.new.out c.put_numbers-end.result (line_of c.args.key.now c.args.l.now) c.args.out.now c.args.start
after_numbers_2 c = leads_on (joined c.args.l.now) (line_end ∷ []) (after_key_3 c) c.put_numbers-end.ensures

pub returns : goal.returns
returns c = leads_last (line_end ∷ []) [] (after_numbers_2 c) refl c.put.ensures
