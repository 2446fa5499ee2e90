-- The tests of places, and then test after test in the order of their numbers.
use Prim.{tt}
use mathlib.Core.Path.{refl, sym, ◌∙◌, ap}
use borrow.Author.Tests.{le-leb, lt-leb}
use Rattle.basics.specs.Lists.{all}
use Rattle.basics.specs.Outcome.{answer_of}
use Rattle.basics.proofs.Outcomes.{pass, refuse, accept, exit_answer}
use Rattle.code.specs.Lists.{is_below}
use Rattle.code.specs.Parts.{code_with}
use Rattle.codewords.specs.Codewords.{symbols}
use Rattle.solving.proofs.Chains.{places_go, places_refused}
use Rattle.solving.proofs.tests.test_lists.Goals as goal

pub returns-in_err-test_places : goal.returns-in_err-test_places
returns-in_err-test_places c curve ys =
    exit_answer _ _ c.from_residual.ensures.1 (places_refused (code_with c.args.m curve c.args.k c.args.xs.now ys) _ {old = tt} _ (sym (ap answer_of c.in_err-test_places.was) ∙ c.test_places.ensures)).answers

pub returns-then-not-all_below : goal.returns-then-not-all_below
unfolding symbols
returns-then-not-all_below c curve ys =
    let says = ap (λ q. all (is_below q) c.args.symbols.now) (sym c.size.ensures) ∙ sym c.all_below.ensures in
    (places_go (code_with c.args.m curve c.args.k c.args.xs.now ys) _ (sym c.test_places.ensures ∙ ap answer_of c.in_ok-test_places.was) _ {old = tt} {new = tt} (refuse _ (says ∙ c.if-not-all_below.true))).answers

pub returns-then-places-k : goal.returns-then-places-k
unfolding symbols
returns-then-places-k c curve ys =
    let says = ap (λ q. all (is_below q) c.args.symbols.now) (sym c.size.ensures) ∙ sym c.all_below.ensures in
    (places_go (code_with c.args.m curve c.args.k c.args.xs.now ys) _ (sym c.test_places.ensures ∙ ap answer_of c.in_ok-test_places.was) _ {old = tt} {new = tt}
    (pass _ (says ∙ c.if-not-all_below.false) (refuse _ (lt-leb _ _ c.if-places-k.true)))).answers

pub returns : goal.returns
unfolding symbols
returns c curve ys =
    let says = ap (λ q. all (is_below q) c.args.symbols.now) (sym c.size.ensures) ∙ sym c.all_below.ensures in
    (places_go (code_with c.args.m curve c.args.k c.args.xs.now ys) _ (sym c.test_places.ensures ∙ ap answer_of c.in_ok-test_places.was) _ {old = tt} {new = tt}
    (pass _ (says ∙ c.if-not-all_below.false) (pass _ (le-leb _ _ c.if-places-k.false) (accept refl)))).answers
