-- Request S-2: an accepted call of Means is one of its outcome, of which the crate hours has shown that each reading is counted once; stamp 0 fails the test of
-- the hours.
use native.Mathlib.Omega.{arith}
use borrow.Author.Tests.{eq-eqb, le-leb}
use lib.ListN.{length, get_or}
use Rattle.basics.specs.declared.Refusal.TheVariants.{Length, Hour, StampOrder}
use Rattle.basics.proofs.Lists.{all_not, both_true}
use Rattle.hours.specs.Means.{in_hours}
use Rattle.hours.proofs.Stamps.{in_hour_lem, hour_from, hour_to, outside}
use Rattle.hours.proofs.Counting.{each_once as counted-once}
use Rattle.demands.specs.Hours.{Hours}
use Rattle.demands.proofs.Passing.{on, refused_on}
use Rattle.demands.proofs.Blocks.{done_accepted}

pub hours : Hours
hours =
    record {
      holds = λ h t. (λ e. (omega (arith, hour_from h t e), hour_to h t e), λ l. in_hour_lem h t (omega (arith, l.0)) l.1);
      stamp_0 = λ ts rs first r old new m c i l e.
          let none = outside first (length old) (get_or ts i 0) (λ b. omega (arith, b.from)) in
          refused_on Hour _ (all_not (in_hours first (length old)) ts 0 i l none)
          (on StampOrder c.ascending
          (on Hour (le-leb _ _ c.early)
          (on Length (both_true _ _ (eq-eqb _ _ c.one_each) (le-leb _ _ c.few_hours)) m)));
      each_once = λ ts rs first old new m. counted-once ts rs first (length old) new (done_accepted _ m);
    }
