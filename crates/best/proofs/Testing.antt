-- The test of the symbols, that of the budget by its two bounds, and the three lists that are lent, each shown by itself.
use Prim.Native.Nat.{ℕ, ◌<◌, ◌≤◌}
use mathlib.Core.Path.{◌≡◌, sym, ◌∙◌, ap, ap₂}
use mathlib.Core.Bool.{Bool, true, false, ◌&&◌}
use mathlib.Core.List.{List}
use lib.Dec.{leb}
use borrow.Author.Tests.{le-leb, lt-leb}
use Rattle.basics.specs.Lists.{all}
use Rattle.basics.specs.Outcome.{Done, accepted, Meets}
use Rattle.basics.proofs.Outcomes.{accept}
use Rattle.code.specs.Lists.{is_below}
use Rattle.codewords.specs.Code.{Code, q}
use Rattle.codewords.specs.Codewords.{symbols}
use Rattle.best.specs.Outcomes.{is_budget}

-- the test of the symbols, by the size of the field
pub symbols_tested : (code : Code) (received : List ℕ) {size : ℕ} {r : Bool} → size ≡ q code → r ≡ all (is_below size) received → symbols code received ≡ r
unfolding symbols
symbols_tested code received e h = ap (λ s. all (is_below s) received) (sym e) ∙ sym h

pub low_budget : (budget : ℕ) → budget < 1 → is_budget budget ≡ false
low_budget budget h = ap (λ b. b && leb budget 65535) (lt-leb 1 budget h)

pub high_budget : (budget : ℕ) → 1 ≤ budget → 65535 < budget → is_budget budget ≡ false
high_budget budget h g = ap₂ (λ a b. a && b) (le-leb 1 budget h) (lt-leb budget 65535 g)

pub in_budget : (budget : ℕ) → 1 ≤ budget → budget ≤ 65535 → is_budget budget ≡ true
in_budget budget h g = ap₂ (λ a b. a && b) (le-leb 1 budget h) (le-leb budget 65535 g)

module _ {M₁ M₂ M₃ : Type 0} where
  pub accept_three : {l₁ new₁ : M₁} {l₂ new₂ : M₂} {l₃ new₃ : M₃} {old : M₁ × M₂ × M₃} → new₁ ≡ l₁ → new₂ ≡ l₂ → new₃ ≡ l₃
      → Meets (accepted (l₁, l₂, l₃)) Done old (new₁, new₂, new₃)
  accept_three e₁ e₂ e₃ = accept (rw (e₁, e₂, e₃))
