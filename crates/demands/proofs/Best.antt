-- Request S-7: past the tests before 23 the budget decides, and what is accepted is as the crate patterns promises of the definitions.
use Rattle.basics.specs.Outcome.{Done, Refused}
use Prim.Native.Nat.{ℕ, min}
use mathlib.Core.Path.{◌≡◌, refl, sym, ◌∙◌, ap}
use mathlib.Core.Bool.{Bool, true, false}
use mathlib.Core.Logic.{◌↔◌}
use mathlib.Core.List.{List, map}
use native.Mathlib.Omega.{arith}
use lib.Dec.{leb}
use lib.ListN.{get_or}
use borrow.Author.Tests.{leb-true, le-leb}
use Rattle.basics.specs.declared.Refusal.TheVariants.{Length, Budget}
use Rattle.basics.proofs.Lists.{both_left, both_right, both_true}
use Rattle.codewords.specs.Code.{Code, q, code_answer}
use Rattle.codewords.proofs.Tests.{not_both}
use Rattle.solving.specs.Tests.{cleared}
use Rattle.patterns.specs.Cheapest.{gap_to}
use Rattle.patterns.specs.Best.{cost, tries_made, untried, weight, best, best_cost, gap}
use Rattle.patterns.specs.Promises.{Promises}
use Rattle.patterns.proofs.Patterns.{length_patterns}
use Rattle.patterns.proofs.Promises.{promises}
use Rattle.best.specs.Outcomes.{Lent, is_budget, figures_of}
use Rattle.demands.specs.Best.{BestCall, after, cost_of, tries_of, gap_of, InBudget, Asked, Earliest, Found, BestWord}
use Rattle.demands.proofs.Passing.{Decided, on, length_on, code_on, symbols_on, decided}

-- the test of the budget in words
budget_true : (b : ℕ) → is_budget b ≡ true → InBudget b
budget_true b h = (leb-true _ _ (both_left (leb 1 b) (leb b 65535) h), leb-true _ _ (both_right (leb 1 b) (leb b 65535) h))

true_budget : (b : ℕ) → InBudget b → is_budget b ≡ true
true_budget b (least, most) = both_true (leb 1 b) (leb b 65535) (le-leb _ _ least) (le-leb _ _ most)

-- a test that says P fails exactly if P does not hold
fails : {P : Type 0} (b : Bool) → (b ≡ true → P) → (P → b ≡ true) → (b ≡ false) ↔ (P → ⊥)
fails true f g = (λ h. absurd (not_both refl h), λ none. absurd (none (f refl)))
fails false f g = (λ h p. not_both (g p) h, λ none. refl)

module _ (code : Code) (done : code_answer code ≡ Done) (received trusts : List ℕ) (budget : ℕ) (c : BestCall) (a : Asked code received trusts budget c) where
  promised : Promises code received trusts
  promised = promises code done received trusts a.small a.received_length a.trusts_length

  abbrev given : Lent
  given = (best code received trusts budget, figures_of code received trusts budget, cleared c.work)

  by_budget : Decided (is_budget budget) Budget given c.answer (after c)
  by_budget =
      decided (is_budget budget)
      (symbols_on code received a.small
      (on Length (le-leb _ _ a.working)
      (length_on c.figures a.figures_length
      (length_on c.out a.out_length (length_on trusts a.trusts_length (length_on received a.received_length (code_on code done a.of_best)))))))

  refuses : ((c.answer ≡ Refused Budget) ↔ (InBudget budget → ⊥)) × ((c.answer ≡ Done) ↔ InBudget budget)
  refuses =
      let not = fails (is_budget budget) (budget_true budget) (true_budget budget) in (
        (λ h. not.0 (by_budget.refuses.0 h), λ h. by_budget.refuses.1 (not.1 h)),
        (λ h. budget_true budget (by_budget.done.0 h), λ h. by_budget.done.1 (true_budget budget h)),
      )

  module _ (b : InBudget budget) where
    new : after c ≡ given
    new = by_budget.gives (true_budget budget b)

    written : c.out_after ≡ best code received trusts budget
    written = ap (λ (m : Lent). m.0) new

    figures : c.figures_after ≡ figures_of code received trusts budget
    figures = ap (λ (m : Lent). m.1) new

    cost_is : cost_of c ≡ best_cost code received trusts budget
    cost_is = ap (λ l. get_or l 0 0) figures

    tries_are : tries_of c ≡ tries_made code budget
    tries_are = ap (λ l. get_or l 1 0) figures

    gap_is : gap_of c ≡ gap code received trusts budget
    gap_is = ap (λ l. get_or l 2 0) figures

    earliest : Earliest code received trusts budget c
    earliest =
        let e = promised.best_earliest budget b.0 in
        record {
          try = e.try;
          is_made = omega (arith, tries_are, e.is_made);
          gives = written ∙ e.gives;
          dearer_before = λ i h. omega (arith, cost_is, e.before i h);
        }

    found : Found code received trusts budget c
    unfolding best_cost tries_made gap gap_to
    found =
        record {
          done = by_budget.done.1 (true_budget budget b);
          written = written;
          three = figures ∙ rw (cost_is, tries_are, gap_is) refl;
          working = ap (λ (m : Lent). m.2) new;
          is_codeword = rw written (promised.best_codeword budget);
          its_cost = cost_is ∙ ap (cost received trusts) (sym written);
          cheapest = λ i h. omega (arith, cost_is, promised.best_cheapest budget i (omega (arith, h, tries_are)));
          earliest = earliest;
          tries_counted = tries_are;
          budget_or_all = tries_are ∙ promised.tries budget ∙ ap (min budget) (sym (length_patterns (q code) code.k));
          gap_is = gap_is ∙ ap (λ cost. gap_to cost (map (weight code trusts) (untried code budget))) (sym cost_is);
          gap_0 = λ e. gap_is ∙ ap (λ l. gap_to (best_cost code received trusts budget) (map (weight code trusts) l)) e;
          no_cheaper = λ w h. omega (arith, cost_is, gap_is, promised.no_cheaper budget w h);
          all_tried = λ e w h. omega (arith, cost_is, promised.all_tried budget e w h);
        }

-- THEOREM
pub best_word : (code : Code) → code_answer code ≡ Done → BestWord code
best_word code done =
    record {
      tries = promises code done;
      tries_in_all = length_patterns (q code) code.k;
      best_word = found code done;
      never_dearer = λ received trusts small large c d a e s l h.
          let cheaper = (promised code done received trusts small c a).never_dearer small large h in
          omega (arith, cheaper, cost_is code done received trusts small c a s, cost_is code done received trusts large d e l);
      budget_23 = refuses code done;
    }
