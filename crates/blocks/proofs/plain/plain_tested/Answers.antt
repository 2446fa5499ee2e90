-- Test after test, and then the callee writes the values.
use mathlib.Core.Path.{sym, ◌∙◌, ap}
use native.Mathlib.Omega.{arith}
use borrow.Author.Tests.{eq-eqb, ne_eqb}
use Rattle.basics.specs.Lists.{all}
use Rattle.basics.proofs.Outcomes.{pass, refuse, accept}
use Rattle.code.specs.Lists.{is_below}
use Rattle.codewords.specs.Codewords.{symbols}
use Rattle.codewords.proofs.Accepted.{accepted_done}
use Rattle.blocks.proofs.Words.{plain_word}
use Rattle.blocks.proofs.plain.plain_tested.Goals as goal

pub returns-then-coefficients-code : goal.returns-then-coefficients-code
returns-then-coefficients-code c = refuse _ (ne_eqb _ _ c.if-coefficients-code.true)

pub returns-then-out-code : goal.returns-then-out-code
returns-then-out-code c = pass _ (eq-eqb _ _ c.if-coefficients-code.false) (refuse _ (ne_eqb _ _ c.if-out-code.true))

pub returns-then-not-all_below : goal.returns-then-not-all_below
unfolding symbols
returns-then-not-all_below c =
    let says = c.all_below.ensures ∙ ap (λ q. all (is_below q) c.args.coefficients.now) c.size-q.ensures in
    pass _ (eq-eqb _ _ c.if-coefficients-code.false) (pass _ (eq-eqb _ _ c.if-out-code.false) (refuse _ (sym says ∙ c.if-not-all_below.true)))

pub write_word-requires : goal.write_word-requires
write_word-requires c =
    let a = accepted_done _ c.args.code.now.accepted in
    record { out_in_bounds = (omega (arith, c.if-out-code.false, a.lengths), omega (arith, c.if-out-code.false, a.lengths), omega (arith, a.n_most), omega (arith, a.k_least, c.if-coefficients-code.false)) }

pub returns : goal.returns
unfolding symbols
returns c =
    let ok = sym (c.all_below.ensures ∙ ap (λ q. all (is_below q) c.args.coefficients.now) c.size-q.ensures) ∙ c.if-not-all_below.false in
    pass _ (eq-eqb _ _ c.if-coefficients-code.false) (pass _ (eq-eqb _ _ c.if-out-code.false) (pass _ ok
    (accept (c.write_word.ensures ∙ plain_word _ c.args.code.now.accepted c.args.coefficients.now c.if-coefficients-code.false ok c.if-out-code.false))))
