-- An outcome whose tests stand in a list: it answers with the first refusal of the list whose test fails, or with what stands behind the tests.
use Prim.{Unit, tt}
use Prim.Native.Nat.{ℕ}
use mathlib.Core.Path.{◌≡◌, refl, sym, ◌∙◌, ap, subst}
use mathlib.Core.Bool.{Bool, true, false, cond}
use mathlib.Core.Logic.{◌↔◌}
use mathlib.Core.List.{List, [], ◌∷◌, ◌++◌}
use native.Mathlib.Omega.{arith}
use Rattle.basics.specs.declared.Refusal.{Refusal}
use Rattle.basics.specs.Outcome.{Answer, Done, Refused, Outcome, refused, accepted, counted, check, answer, left, Meets}
use Rattle.codewords.specs.Code.{Code, code_answer}
use Rattle.demands.specs.Order.{Test, first, numbers, code_tests}
use Rattle.demands.specs.Demand1.{Answers}

-- every test of the list holds
abbrev pub Hold : List Test → Type 0
Hold [] = Unit {0}
Hold (t ∷ ts) = (t.holds ≡ true) × Hold ts

refused_done : {e : Refusal} → Refused e ≡ Done → ⊥
refused_done h = let z : ◌≡◌ {A = ℕ} 0 1 = cc in omega arith

pub first_hold : (ts : List Test) → first ts ≡ Done → Hold ts
first_hold [] h = tt
first_hold (t ∷ ts) h = by t.holds refl (first_hold ts) h
  where
    by : (b : Bool) → t.holds ≡ b → (first ts ≡ Done → Hold ts) → cond b (first ts) (Refused t.refusal) ≡ Done → (t.holds ≡ true) × Hold ts
    by true e r h = (e, r h)
    by false e r h = absurd (refused_done h)

first_append : (ts us : List Test) → first (ts ++ us) ≡ Done → (first ts ≡ Done) × (first us ≡ Done)
first_append [] us h = (refl, h)
first_append (t ∷ ts) us h = by t.holds (first_append ts us) h
  where
    by : (b : Bool) → (first (ts ++ us) ≡ Done → (first ts ≡ Done) × (first us ≡ Done)) → cond b (first (ts ++ us)) (Refused t.refusal) ≡ Done
        → (cond b (first ts) (Refused t.refusal) ≡ Done) × (first us ≡ Done)
    by true r h = r h
    by false r h = absurd (refused_done h)

module _ {M : Type 0} where
  -- the tests of the list in their order, and then an outcome
  abbrev pub order_of_tests : List Test → Outcome M → Outcome M
  order_of_tests [] o = o
  order_of_tests (t ∷ ts) o = check t.holds t.refusal (order_of_tests ts o)

  order_done : (ts : List Test) (o : Outcome M) → first ts ≡ Done → order_of_tests ts o ≡ o
  unfolding check
  order_done [] o h = refl
  order_done (t ∷ ts) o h = by t.holds (order_done ts o) h
    where
      by : (b : Bool) → (first ts ≡ Done → order_of_tests ts o ≡ o) → cond b (first ts) (Refused t.refusal) ≡ Done → check b t.refusal (order_of_tests ts o) ≡ o
      by true r h = r h
      by false r h = cc

  -- what stands behind the tests is no refusal
  abbrev pub Accepts : Outcome M → Type 0
  Accepts o = (e : Refusal) → answer o ≡ Refused e → ⊥

  order_first : (ts : List Test) (o : Outcome M) → Accepts o → (e : Refusal) → (answer (order_of_tests ts o) ≡ Refused e) ↔ (first ts ≡ Refused e)
  unfolding check answer
  order_first [] o a e = (λ h. absurd (a e h), λ h. cc)
  order_first (t ∷ ts) o a e = by t.holds (order_first ts o a e)
    where
      by : (b : Bool) → (answer (order_of_tests ts o) ≡ Refused e) ↔ (first ts ≡ Refused e)
          → (answer (check b t.refusal (order_of_tests ts o)) ≡ Refused e) ↔ (cond b (first ts) (Refused t.refusal) ≡ Refused e)
      by true r = r
      by false r = (λ h. h, λ h. h)

  pub order_answer : (ts : List Test) (m : M) → answer (order_of_tests ts (accepted m)) ≡ first ts
  unfolding check answer
  order_answer [] m = refl
  order_answer (t ∷ ts) m = by t.holds (order_answer ts m)
    where
      by : (b : Bool) → answer (order_of_tests ts (accepted m)) ≡ first ts → answer (check b t.refusal (order_of_tests ts (accepted m))) ≡ cond b (first ts) (Refused t.refusal)
      by true r = r
      by false r = refl

  pub refused_left : (o : Outcome M) (old : M) {e : Refusal} → answer o ≡ Refused e → left old o ≡ old
  unfolding answer left
  refused_left (refused e) old h = refl
  refused_left (accepted m) old h = cc
  refused_left (counted n m) old h = cc

  pub accepts_accepted : (m : M) → Accepts (accepted m)
  unfolding answer
  accepts_accepted m e h = refused_done (sym h)

  pub accepts_counted : (n : ℕ) (m : M) → Accepts (counted n m)
  unfolding answer
  accepts_counted n m e h = let z : ◌≡◌ {A = ℕ} 0 1 = cc in omega arith

  -- LAW: of every outcome whose tests stand in a list
  pub answers : (ns : List ℕ) (ts : List Test) (o : Outcome M) {r : Answer} {old new : M} {whole : Type 0} → numbers ts ≡ ns → Accepts o
      → (first ts ≡ Done → Meets o r old new → whole) → Meets (order_of_tests ts o) r old new → Answers ns ts r old new whole
  answers ns ts o {r} {old} {new} n a w m =
      record {
        order = n;
        refused = λ e. (λ h. (order_first ts o a e).0 (sym m.answers ∙ h), λ h. m.answers ∙ (order_first ts o a e).1 h);
        unchanged = λ e h. m.leaves ∙ refused_left (order_of_tests ts o) old (sym m.answers ∙ h);
        accepted = λ h. w h (subst (λ o. Meets o r old new) (order_done ts o h) m);
      }

code_first : (code : Code) → first (code_tests code) ≡ Done → code_answer code ≡ Done
unfolding code_answer answer
code_first code h = ap answer (order_done (code_tests code) (accepted tt) h)

-- where the code's tests come first, and all hold
pub code_held : (code : Code) (ts : List Test) → first (code_tests code ++ ts) ≡ Done → (code_answer code ≡ Done) × Hold ts
code_held code ts h = let (done, held) = first_append (code_tests code) ts h in (code_first code done, first_hold ts held)

pub code_answers : {M : Type 0} (code : Code) (ns : List ℕ) (ts : List Test) (o : Outcome M) {r : Answer} {old new : M} {whole : Type 0} → numbers (code_tests code ++ ts) ≡ ns → Accepts o
    → (code_answer code ≡ Done → Hold ts → Meets o r old new → whole) → Meets (order_of_tests (code_tests code ++ ts) o) r old new → Answers ns (code_tests code ++ ts) r old new whole
code_answers code ns ts o n a w =
    answers ns (code_tests code ++ ts) o n a (λ h. let (done, held) = code_held code ts h in w done held)
