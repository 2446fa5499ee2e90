-- What the tries need is prepared, the word found, its figures written, and the working space cleared.
use mathlib.Core.Path.{◌∙◌}
use native.Mathlib.Omega.{arith}
use Rattle.code.specs.Shown.{shown}
use Rattle.codewords.proofs.Accepted.{accepted_done}
use Rattle.search.proofs.Settings.{trust_places, places_many}
use Rattle.best.proofs.Beginning.{cleared_same, figures_by}
use Rattle.best.proofs.run.best_in.Goals as goal

pub write_figures-requires : goal.write_figures-requires
write_figures-requires c =
    let a = accepted_done _ c.requires.given.0.done in
    let g = c.begin_best.ensures.0.given in
    (a.field, trust_places g, omega (arith, places_many g, a.k_most, a.n_most), c.requires.given.5, c.requires.given.6, c.requires.given.3)

pub returns : goal.returns
returns c = (
  c.find_best-cost.ensures.0,
  figures_by (shown c.args.code.now) c.args.received.now c.args.trusts.now c.args.budget c.begin_best.ensures.0.given c.requires.given.5
      c.find_best-cost.ensures.1 c.write_figures.ensures,
  c.clear_room.ensures ∙ cleared_same c.args.work.now c.begin_best.new.work c.begin_best.ensures.1,
)
