-- All places are filled in, and handed on.
use mathlib.Core.Path.{◌≡◌, sym, ◌∙◌, ap}
use mathlib.Core.List.{List, ◌++◌}
use Prim.Native.Nat.{ℕ, ◌≤◌}
use native.Mathlib.Omega.{arith}
use lib.ListN.{length, take, drop}
use lib.Seq.{length-take-le}
use Rattle.basics.specs.Lists.{table}
use Rattle.basics.proofs.Lists.{length_table, front}
use Rattle.codewords.proofs.Accepted.{accepted_done}
use Rattle.coder.specs.Stages.{place_at}
use Rattle.coder.proofs.recover.recover_at.Goals as goal

-- what stands in the lent part
are_places : (l v : List ℕ) (n : ℕ) → n ≤ length l → length v ≡ length (take n l) → v ≡ table place_at (length (take n l)) → take n (v ++ drop n l) ≡ table place_at n
are_places l v n h size e = front l v n h size ∙ e ∙ ap (table place_at) (length-take-le n l h)

pub slice_bounds-fill_places-end : goal.slice_bounds-fill_places-end
slice_bounds-fill_places-end c = omega (arith, c.requires.in_bounds.0, (accepted_done _ c.args.code.now.accepted).n_most)

pub slice_bounds-fill_places-end-2 : goal.slice_bounds-fill_places-end-2
slice_bounds-fill_places-end-2 c =
    sym (length-take-le (length c.args.code.now.xs.now) c.args.places.now (omega (arith, c.requires.in_bounds.0, (accepted_done _ c.args.code.now.accepted).n_most)))

pub fill_places-requires : goal.fill_places-requires
fill_places-requires c =
    let m = (accepted_done _ c.args.code.now.accepted).n_most in
    omega (arith, m, length-take-le (length c.args.code.now.xs.now) c.args.places.now (omega (arith, c.requires.in_bounds.0, m)))

pub slice_bounds-recover_run-end : goal.slice_bounds-recover_run-end
slice_bounds-recover_run-end c = omega (arith, c.requires.in_bounds.0, (accepted_done _ c.args.code.now.accepted).n_most)

pub slice_bounds-recover_run-end-2 : goal.slice_bounds-recover_run-end-2
slice_bounds-recover_run-end-2 c =
    let h : length c.args.code.now.xs.now ≤ length c.args.places.now = omega (arith, c.requires.in_bounds.0, (accepted_done _ c.args.code.now.accepted).n_most) in
    rw (are_places c.args.places.now c.fill_places.new.places _ h c.fill_places.auto.places c.fill_places.ensures) (sym (length_table _ _))

pub recover_run-requires : goal.recover_run-requires
recover_run-requires c =
    let h : length c.args.code.now.xs.now ≤ length c.args.places.now = omega (arith, c.requires.in_bounds.0, (accepted_done _ c.args.code.now.accepted).n_most) in
    record { places_value = (are_places c.args.places.now c.fill_places.new.places _ h c.fill_places.auto.places c.fill_places.ensures, c.requires.in_bounds.1, c.requires.in_bounds.2, c.requires.in_bounds.3, c.requires.in_bounds.4) }
