-- The error locator, and from its values on: each stage ensures what the next requires.
use native.Mathlib.Omega.{arith}
use lib.Seq.{length-take-le}
use Rattle.code.specs.Shown.{shown}
use Rattle.codewords.proofs.Accepted.{accepted_done}
use Rattle.decoding.specs.Near.{radius}
use Rattle.correction.proofs.Locating.{seconds_below, symbols_below, laid_for, located}
use Rattle.correction.proofs.run.correct_in.Goals as goal

pub layout-shape-requires : goal.layout-shape-requires
layout-shape-requires c =
    let a = accepted_done (shown c.args.code.now) c.args.code.now.accepted in
    (omega (arith, a.k_most), a.n_most)

pub locate-requires : goal.locate-requires
locate-requires c =
    let (size, fits, room, are_symbols) = c.requires.r_len in
    let done = c.args.code.now.accepted in record {
      laid = (
        laid_for (shown c.args.code.now) done c.args.r.now are_symbols size c.layout-shape.ensures,
        seconds_below (shown c.args.code.now) done,
        symbols_below (shown c.args.code.now) done c.args.r.now are_symbols size,
        c.requires.four_long,
      );
    }

pub correct_kept-requires : goal.correct_kept-requires
unfolding radius
correct_kept-requires c =
    let (size, fits, room, are_symbols) = c.requires.r_len in
    record {
      located = (located (shown c.args.code.now) c.args.code.now.accepted c.args.r.now are_symbols size c.layout-shape.ensures c.locate.ensures, c.layout-shape.ensures.t_is);
      l_len = (
        length-take-le _ _ (omega (arith, c.locate.auto, c.requires.four_long.b_long)),
        length-take-le _ _ (omega (arith, c.locate.auto, c.requires.four_long.c_long)),
        length-take-le _ _ (omega (arith, c.locate.auto, c.requires.four_long.d_long)),
        fits,
        room,
      );
    }
