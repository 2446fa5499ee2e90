-- The coordinates are gathered, and the pair of their points is the pair of the places.
use mathlib.Core.Path.{refl, sym, ◌∙◌, ap}
use native.Mathlib.Omega.{arith}
use Rattle.basics.specs.Lists.{table}
use Rattle.engine.specs.Places.{coordinate_at}
use Rattle.values.specs.Values.{one}
use Rattle.solving.proofs.Link.{accepted, are_chosen}
use Rattle.solving.proofs.Gathered.{gathered_coordinates, gathered_runs, gathered_zero}
use Rattle.solving.proofs.last_zero.last_zero_in.Goals as goal

pub gather-requires : goal.gather-requires
gather-requires c = are_chosen c.requires.placed.0 c.args.code.now.xs.now refl _ (omega (arith, c.requires.gx_len.0, c.requires.placed.1))

pub gather-requires-2 : goal.gather-requires-2
gather-requires-2 c = are_chosen c.requires.placed.0 c.args.code.now.ys.now (sym (accepted c.requires.placed.0).lengths) _ (omega (arith, c.requires.gx_len.2, c.requires.placed.1))

pub zero_at_last-requires : goal.zero_at_last-requires
zero_at_last-requires c =
    let ex = c.gather.ensures ∙ ap (table (coordinate_at c.args.code.now.xs.now c.args.places.now)) c.requires.gx_len.0 in
    let ey = c.gather-2.ensures ∙ ap (table (coordinate_at c.args.code.now.ys.now c.args.places.now)) c.requires.gx_len.2 in
    let first = c.gather.auto.out ∙ c.requires.gx_len.0 in
    let second = c.gather-2.auto.out ∙ c.requires.gx_len.2 in
    record { coordinates = (gathered_coordinates c.requires.placed.0 c.requires.placed.1 ex ey, c.fill_ones.ensures ∙ ap (table one) (c.requires.gx_len.1 ∙ sym second)); runs_first = (gathered_runs c.requires.placed.0 c.requires.placed.1 ex ey, omega (arith, first, (accepted c.requires.placed.0).k_least), omega (arith, first, (accepted c.requires.placed.0).k_most, (accepted c.requires.placed.0).n_most)) }

pub returns : goal.returns
returns c =
    let ex = c.gather.ensures ∙ ap (table (coordinate_at c.args.code.now.xs.now c.args.places.now)) c.requires.gx_len.0 in
    let ey = c.gather-2.ensures ∙ ap (table (coordinate_at c.args.code.now.ys.now c.args.places.now)) c.requires.gx_len.2 in
    gathered_zero c.requires.placed.0 c.requires.placed.1 ex ey c.zero_at_last.ensures
