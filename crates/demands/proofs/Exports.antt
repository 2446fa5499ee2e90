-- A C export reports the status of an answer that meets the outcome; so what the demands say of calls holds of it, with the number's negative for a refusal.
use Prim.Native.Nat.{suc, ◌-◌}
use mathlib.Core.Path.{◌≡◌, refl, sym, ◌∙◌, ap}
use mathlib.Core.Logic.{◌↔◌}
use mathlib.Core.List.{List, [], ◌∷◌}
use lib.IntN.{ℤ, pos, negsuc, neg_ℤ}
use lib.ListN.{get_or}
use Rattle.basics.specs.declared.Refusal.{Refusal}
use Rattle.basics.specs.declared.Refusal.TheVariants.{FieldNumber, CurveCoefficient, Singular, PointCount, OffCurve, RepeatedPoint, Dimension}
use Rattle.basics.specs.declared.Refusal.TheVariants.{Length, Place, RepeatedPlace, Symbol, Dependent, TooFew, NoCodeword, Independent}
use Rattle.basics.specs.declared.Refusal.TheVariants.{Reading, NeverPacked, StampOrder, Hour, SheetShape, TooFar, NoRun, Budget}
use Rattle.basics.specs.Outcome.{Answer, Done, Counted, Refused, Outcome, answer, number, status, Meets, Reports}

-- THEOREM
pub reported : {M : Type 0} {o : Outcome M} {r : ℤ} {old new : M} → Reports o r old new → (a : Answer) × Meets o a old new × (r ≡ status a)
reported {o = o} m = (answer o, record { answers = refl; leaves = m.leaves }, m.reports)

-- ---- which answer a number reports

-- the refusals by their numbers less one
refusals : List Refusal
refusals =
    FieldNumber ∷ CurveCoefficient ∷ Singular ∷ PointCount ∷ OffCurve ∷ RepeatedPoint ∷ Dimension ∷ Length ∷ Place ∷ RepeatedPlace ∷ Symbol ∷ Dependent ∷ TooFew
    ∷ NoCodeword ∷ Independent ∷ Reading ∷ NeverPacked ∷ StampOrder ∷ Hour ∷ SheetShape ∷ TooFar ∷ NoRun ∷ Budget ∷ []

named : (e : Refusal) → (suc (number e - 1) ≡ number e) × (get_or refusals (number e - 1) FieldNumber ≡ e)
unfolding refusals
named FieldNumber = (refl, refl)
named CurveCoefficient = (refl, refl)
named Singular = (refl, refl)
named PointCount = (refl, refl)
named OffCurve = (refl, refl)
named RepeatedPoint = (refl, refl)
named Dimension = (refl, refl)
named Length = (refl, refl)
named Place = (refl, refl)
named RepeatedPlace = (refl, refl)
named Symbol = (refl, refl)
named Dependent = (refl, refl)
named TooFew = (refl, refl)
named NoCodeword = (refl, refl)
named Independent = (refl, refl)
named Reading = (refl, refl)
named NeverPacked = (refl, refl)
named StampOrder = (refl, refl)
named Hour = (refl, refl)
named SheetShape = (refl, refl)
named TooFar = (refl, refl)
named NoRun = (refl, refl)
named Budget = (refl, refl)

minus : (e : Refusal) → status (Refused e) ≡ negsuc (number e - 1)
minus e = ap (λ n. neg_ℤ (pos n)) (sym (named e).0)

-- THEOREM: the negative of a refusal's number is reported for that refusal alone
pub refusal_reported : (a : Answer) (e : Refusal) → (status a ≡ status (Refused e)) ↔ (a ≡ Refused e)
refusal_reported a e = (λ h. by a (h ∙ minus e), λ h. ap status h)
  where
    by : (a : Answer) → status a ≡ negsuc (number e - 1) → a ≡ Refused e
    by Done h = cc
    by (Counted n) h = cc
    by (Refused d) h =
        let z : ◌≡◌ {A = ℤ} (negsuc (number d - 1)) (negsuc (number e - 1)) = sym (minus d) ∙ h in
        let k : number d - 1 ≡ number e - 1 = cc z in
        ap Refused (sym (named d).1 ∙ ap (λ k. get_or refusals k FieldNumber) k ∙ (named e).1)
