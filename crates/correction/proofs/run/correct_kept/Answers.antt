-- Too few places, the word that they decide, its distance, and then that word as the answer.
use mathlib.Core.Path.{sym, ◌∙◌, ap}
use Prim.Native.Nat.{◌<◌, ◌≤◌}
use native.Mathlib.Omega.{arith}
use lib.ListN.{length}
use Rattle.basics.proofs.Lists.{copied}
use Rattle.basics.proofs.Outcomes.{pass, refuse, count_pair}
use Rattle.code.specs.Shown.{shown}
use Rattle.decoding.specs.Near.{distance, radius}
use Rattle.correction.specs.Kept.{kept_in}
use Rattle.correction.proofs.Correcting.{few, too_few, too_far, near, is_corrected}
use Rattle.correction.proofs.run.correct_kept.Goals as goal

pub count-kept-requires : goal.count-kept-requires
count-kept-requires c = omega (arith, c.requires.located.0.kept_size, few c.requires.located.0)

pub returns-then-kept-code : goal.returns-then-kept-code
returns-then-kept-code c = refuse _ (too_few c.requires.located.0 (omega (arith, c.if-kept-code.true, c.count-kept.ensures)))

pub distance-changed-requires : goal.distance-changed-requires
distance-changed-requires c =
    let size = c.solve_kept.auto.f ∙ c.requires.l_len.2 in
    (size ∙ sym c.requires.located.0.symbols_size, omega (arith, size, few c.requires.located.0))

pub returns-then-t-changed : goal.returns-then-t-changed
returns-then-t-changed c =
    refuse _ (too_far c.requires.located.0 (omega (arith, c.if-kept-code.false, c.count-kept.ensures)) c.solve_kept.ensures (omega (arith, c.if-t-changed.true, c.distance-changed.ensures, c.requires.located.1)))

pub returns : goal.returns
returns c =
    let enough : c.args.code.now.k < length (kept_in c.args.e.now) = omega (arith, c.if-kept-code.false, c.count-kept.ensures) in
    let close : distance c.solve_kept.new.f c.args.r.now ≤ radius (shown c.args.code.now) = omega (arith, c.if-t-changed.false, c.distance-changed.ensures, c.requires.located.1) in
    let found = is_corrected c.requires.located.0 enough c.solve_kept.ensures close in
    pass _ (near c.requires.located.0 enough c.solve_kept.ensures close)
    (count_pair (c.distance-changed.ensures ∙ ap (λ w. distance w c.args.r.now) found)
    (copied (c.solve_kept.auto.f ∙ c.requires.l_len.2) (c.copy.auto.out ∙ c.requires.l_len.3) c.copy.ensures ∙ found) c.clear_room.ensures)
