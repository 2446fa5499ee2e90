-- The tests up to number 12, by a function that is called with `?`: what it says where it passed, and the exit where it refused.
use Prim.{Unit}
use Prim.Native.Nat.{ℕ}
use mathlib.Core.Path.{◌≡◌, sym, ap, ◌∙◌}
use mathlib.Core.List.{List}
use native.Mathlib.Omega.{arith}
use Rattle.std.specs.Prelude.{Result, Ok, Err}
use Rattle.std.specs.Result.{IsErrAnd}
use Rattle.basics.specs.declared.Refusal.{Refusal}
use Rattle.basics.specs.Outcome.{answer_of, Done, Outcome, Meets}
use Rattle.basics.proofs.Outcomes.{exit}
use Rattle.codewords.specs.Code.{Code}
use Rattle.solving.specs.Given.{Prepared}
use Rattle.solving.specs.Tests.{check_posed, posed_answer}
use Rattle.solving.proofs.Chains.{posed_stop}

module _ (code : Code) (J us : List ℕ) {claim : Type 0} {r : Result (Unit {0}) Refusal} (p : Prepared code J us claim (answer_of r)) where
  pub prepared : {u : Unit {0}} → r ≡ Ok u → (posed_answer code J us ≡ Done) × claim
  prepared e = (sym p.answers ∙ ap answer_of e, p.holds (ap answer_of e))

  pub not_prepared : {M : Type 0} {old : M} (o : Outcome M) (s : Result (Unit {0}) Refusal) {e : Refusal} → IsErrAnd s (λ d. d ≡ e) → r ≡ Err e
      → Meets (check_posed code J us o) (answer_of s) old old
  not_prepared o s x e =
      exit _ s x (posed_stop code J us o (sym (ap answer_of e) ∙ p.answers) (λ d. let z : ◌≡◌ {A = ℕ} 0 1 = cc in absurd (omega arith)))
