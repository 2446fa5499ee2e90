-- The length is tested, and then the callee fills the buffer.
use mathlib.Core.Path.{◌∙◌, ap}
use borrow.Author.Tests.{eq-eqb, ne_eqb}
use Rattle.basics.proofs.Outcomes.{pass, refuse, accept}
use Rattle.rolling.specs.Bytes.{state_bytes}
use Rattle.rolling.proofs.calls.rolling_fresh.Goals as goal

pub returns-then-out-ne64 : goal.returns-then-out-ne64
returns-then-out-ne64 c = refuse _ (ne_eqb _ _ c.if-out-ne64.true)

pub returns : goal.returns
returns c =
    pass _ (eq-eqb _ _ c.if-out-ne64.false) (accept (c.store.ensures ∙ ap state_bytes c.fresh.ensures))
