-- Test after test, in the order of their numbers.
use Prim.{tt}
use mathlib.Core.Path.{refl, sym, ◌∙◌}
use Rattle.basics.proofs.Outcomes.{pass, refuse, accept}
use Rattle.solving.proofs.Link.{places_below}
use Rattle.solving.proofs.tests.test_places.Goals as goal

pub returns-then-not-all_places : goal.returns-then-not-all_places
returns-then-not-all_places c = (refuse _ {old = tt} (sym c.all_places.ensures ∙ c.if-not-all_places.true)).answers

pub all_different-requires : goal.all_different-requires
all_different-requires c = places_below c.args.n c.args.places.now c.requires (sym c.all_places.ensures ∙ c.if-not-all_places.false)

pub returns-then-not-all_different : goal.returns-then-not-all_different
returns-then-not-all_different c =
    (pass _ {old = tt} {new = tt} (sym c.all_places.ensures ∙ c.if-not-all_places.false) (refuse _ (sym c.all_different.ensures ∙ c.if-not-all_different.true))).answers

pub returns : goal.returns
returns c =
    (pass _ {old = tt} {new = tt} (sym c.all_places.ensures ∙ c.if-not-all_places.false) (pass _ (sym c.all_different.ensures ∙ c.if-not-all_different.false) (accept refl))).answers
