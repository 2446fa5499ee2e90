-- The array's part of the working space is lent, and comes back as the array.
use mathlib.Core.Path.{◌≡◌, refl, sym, ◌∙◌}
use Prim.Native.Nat.{ℕ, ◌+◌, ◌*◌, ◌≤◌}
use mathlib.Core.List.{List}
use native.Mathlib.Omega.{arith}
use lib.ListN.{length, take}
use lib.Seq.{take_all}
use Rattle.matrix.proofs.Joined.{row_fits, returned, lent_size, part_same, part_other}
use Rattle.picked_rows.specs.Stored.{Put}
use Rattle.picked_rows.proofs.Stored.{returned_spared}
use Rattle.picked_rows.proofs.begin.store.Goals as goal

-- z comes back for the array of index i, and begins as the one that was copied
put_back : (n i : ℕ) (from work z : List ℕ) → length from ≡ n → i ≤ 6 → i * n + n ≤ length work → length z ≡ n → take n z ≡ take n from
    → Put n i from work (returned n i work z)
put_back n i from work z whole few fits size same = record {
  here = part_same n i work fits z size ∙ sym (take_all n z (omega arith)) ∙ same ∙ take_all n from (omega arith);
  others = part_other n i work fits z size;
  spared = returned_spared n i work z few fits size;
}

pub returns : goal.returns
returns c =
    let n = length c.args.from.now in
    let end = row_fits 7 n c.args.i (omega (arith, c.requires.2)) in
    let room : c.args.i * n + n ≤ length c.args.work.now = omega (arith, end, c.requires.0) in
    put_back n c.args.i c.args.from.now c.args.work.now c.copy.new.out
    refl c.requires.2 room (c.copy.auto.out ∙ lent_size n c.args.i c.args.work.now room) c.copy.ensures
