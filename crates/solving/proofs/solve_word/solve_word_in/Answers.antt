-- The points are laid out, what is solved for is computed there, and put back.
use mathlib.Core.Path.{sym, ◌∙◌, ap}
use native.Mathlib.Omega.{arith}
use Rattle.basics.specs.Lists.{table}
use Rattle.arrangement.specs.Arranged.{free_at}
use Rattle.solving.proofs.Link.{accepted}
use Rattle.solving.proofs.Arranged.{places_in_lem, apart}
use Rattle.solving.proofs.Interpolant.{unsolved, restores}
use Rattle.solving.proofs.solve_word.solve_word_in.Goals as goal

pub returns-then-not-solve_laid : goal.returns-then-not-solve_laid
returns-then-not-solve_laid c = unsolved (sym c.solve_laid.ensures.free ∙ c.if-not-solve_laid.true)

pub restore-requires : goal.restore-requires
restore-requires c =
    let many = c.solve_laid.auto.f ∙ c.requires.px_len.3 in
    let a = accepted c.requires.posed.0.placed in
    record {
      places = rw many (places_in_lem c.requires.posed.0.placed);
      apart = apart c.requires.posed.0.placed;
      some = omega (arith, c.requires.posed.0.at_least, a.k_least);
      frees = c.lay_out.ensures.1 ∙ ap (table (free_at c.args.places.now)) (sym many);
      most = omega (arith, many, a.n_most);
    }

pub returns : goal.returns
returns c =
    restores _ c.requires.posed.0.placed c.lay_out.ensures.0.firsts c.lay_out.ensures.0.seconds c.solve_laid.ensures (c.if-not-solve_laid.false) c.restore.ensures
