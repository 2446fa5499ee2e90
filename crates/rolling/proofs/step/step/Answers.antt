-- Test after test; then the callees give the state one hour further and its mean.
use mathlib.Core.Path.{sym, ◌∙◌, ap}
use mir.Syntax.{w16}
use mir.ValLaws.{to_z-of_z}
use Rattle.basics.proofs.Outcomes.{pass, refuse, accept_pair}
use Rattle.rolling.specs.State.{figure}
use Rattle.rolling.proofs.Steps.{advanced_codes}
use Rattle.rolling.proofs.step.step.Goals as goal

pub returns-then-not-is_valid : goal.returns-then-not-is_valid
returns-then-not-is_valid c = refuse _ (sym (rw (to_z-of_z w16 c.args.mean c.ranges.mean) at c.is_valid.ensures) ∙ c.if-not-is_valid.true)

pub returns-then-not-is_possible : goal.returns-then-not-is_possible
returns-then-not-is_possible c =
    pass _ (sym (rw (to_z-of_z w16 c.args.mean c.ranges.mean) at c.is_valid.ensures) ∙ c.if-not-is_valid.false)
    (refuse _ (sym c.is_possible.ensures ∙ c.if-not-is_possible.true))

pub returns-then-not-is_next : goal.returns-then-not-is_next
returns-then-not-is_next c =
    pass _ (sym (rw (to_z-of_z w16 c.args.mean c.ranges.mean) at c.is_valid.ensures) ∙ c.if-not-is_valid.false)
    (pass _ (sym c.is_possible.ensures ∙ c.if-not-is_possible.false)
    (refuse _ (sym c.is_next.ensures ∙ c.if-not-is_next.true)))

pub rolling_mean-requires : goal.rolling_mean-requires
rolling_mean-requires c =
    let valid = sym (rw (to_z-of_z w16 c.args.mean c.ranges.mean) at c.is_valid.ensures) ∙ c.if-not-is_valid.false in
    rw (c.advance-new.ensures, to_z-of_z w16 c.args.mean c.ranges.mean) (advanced_codes _ _ _ (sym c.is_possible.ensures ∙ c.if-not-is_possible.false) valid)

pub returns : goal.returns
returns c =
    let mean = to_z-of_z w16 c.rolling_mean.result (record { sfits = c.rolling_mean.type_inv }) ∙ c.rolling_mean.ensures in
    let further = rw (to_z-of_z w16 c.args.mean c.ranges.mean) at c.advance-new.ensures in
    pass _ (sym (rw (to_z-of_z w16 c.args.mean c.ranges.mean) at c.is_valid.ensures) ∙ c.if-not-is_valid.false)
    (pass _ (sym c.is_possible.ensures ∙ c.if-not-is_possible.false)
    (pass _ (sym c.is_next.ensures ∙ c.if-not-is_next.false)
    (accept_pair further (mean ∙ ap (λ s. figure s.codes) further))))
