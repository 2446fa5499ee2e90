-- Request S-5: by induction over the calls of a run its bytes are those of the run's state; a call on these goes by the run, and other bytes are no run's.
use Prim.Native.Nat.{ℕ, ◌^◌, ◌<◌}
use mathlib.Core.Path.{◌≡◌, refl, sym, ◌∙◌, ap, subst}
use mathlib.Core.Bool.{Bool, true, false, false≢true}
use mathlib.Core.Logic.{◌↔◌}
use mathlib.Core.List.{List, [], ◌∷◌}
use native.Mathlib.Omega.{arith}
use borrow.Author.Tests.{eqb-true, eq-eqb}
use lib.IntN.{ℤ, pos}
use lib.ListN.{length, replicate}
use Rattle.basics.specs.declared.Refusal.TheVariants.{Length, Reading, NoRun}
use Rattle.basics.specs.Outcome.{Answer, Done, Refused, accepted, check, answer, Meets}
use Rattle.basics.specs.SetBits.{Bytes}
use Rattle.basics.proofs.Outcomes.{passed, accept, pass, meets_as}
use Rattle.hours.specs.Means.{absent}
use Rattle.hours.specs.Packing.{valid}
use Rattle.rolling.specs.declared.state.RollingState.{RollingState}
use Rattle.rolling.specs.Runs.{Hour, follows, run, rolling_mean}
use Rattle.rolling.specs.State.{state_of, possible, advanced, figure, tested, step_outcome}
use Rattle.rolling.specs.Bytes.{state_bytes, state_from, fresh_outcome, rolling_outcome}
use Rattle.rolling.proofs.Runs.{run_more, run_valid, run_small, run_follows, run_before, figure_run}
use Rattle.rolling.proofs.Reached.{possible_exactly}
use Rattle.rolling.proofs.Kept.{state_read, step_run, rolling_run, given_bytes}
use Rattle.demands.specs.Rolling.{Step, Rolls, Gives, RollingDay}
use Rattle.demands.proofs.Passing.{on, refused_on, decided, accepted_on}
use Rattle.demands.proofs.Order.{refused_left}
use Rattle.demands.proofs.Blocks.{done_accepted}

-- what is done has passed both tests, and is what was to be accepted
both_passed : {M : Type 0} {v f : Bool} {l old new : M} {r : Answer} → Meets (check v Reading (check f NoRun (accepted l))) r old new → r ≡ Done
    → (v ≡ true) × (f ≡ true) × (l ≡ new)
both_passed m d =
    let (v, rest) = passed Reading (done_accepted _ (rw d at m)) in
    let (f, same) = passed NoRun rest in
    (v, f, cc same)

-- ---- a step from the state of a run, by value

module _ (hs : List Hour) (h : Hour) (r : Answer) (new : RollingState) (mean : ℤ) (before : run hs ≡ true) (small : h.number < 2 ^ 32)
    (met : Meets (step_outcome (state_of hs) h.number h.mean) r (state_of hs, absent) (new, mean)) where
  abbrev given : RollingState × ℤ
  given = (state_of (h ∷ hs), figure (state_of (h ∷ hs)).codes)

  by_steps : Meets (check (valid h.mean) Reading (check (follows hs h.number) NoRun (accepted given))) r (state_of hs, absent) (new, mean)
  by_steps = subst (λ o. Meets o r (state_of hs, absent) (new, mean)) (step_run hs before h) met

  ends : r ≡ Done → (run (h ∷ hs) ≡ true) × (new ≡ state_of (h ∷ hs)) × (mean ≡ rolling_mean (h ∷ hs))
  ends d =
      let (v, f, is) = both_passed by_steps d in
      let longer = run_more h hs v small f before in
      (longer, sym (ap (λ p. p.0) is), sym (ap (λ p. p.1) is) ∙ figure_run (h ∷ hs) longer)

  stepped : ((r ≡ Done) ↔ (run (h ∷ hs) ≡ true)) × (r ≡ Done → (new ≡ state_of (h ∷ hs)) × (mean ≡ rolling_mean (h ∷ hs)))
  stepped = (
    (λ d. (ends d).0, λ longer. (accepted_on (on NoRun (run_follows h hs longer) (on Reading (run_valid h hs longer) by_steps))).0),
    λ d. ((ends d).1, (ends d).2),
  )

-- ---- a call on the state of a run

module _ (hs : List Hour) (c : Step) (r : run hs ≡ true) (is_state : c.state ≡ state_bytes (state_of hs)) (m : Rolls c) where
  abbrev longer : List Hour
  longer = c.hour ∷ hs

  abbrev written : List ℕ × List ℤ
  written = (state_bytes (state_of longer), figure (state_of longer).codes ∷ [])

  by_run : length c.out ≡ 1
      → Meets (check (valid c.hour.mean) Reading (check (follows hs c.hour.number) NoRun (accepted written))) c.answer (c.state, c.out) (c.state_after, c.out_after)
  by_run one =
      subst (λ o. Meets o c.answer (c.state, c.out) (c.state_after, c.out_after))
      (ap (λ b. rolling_outcome b c.hour.number c.hour.mean c.out) is_state ∙ rolling_run hs r c.hour c.out one)
      m.meets

  -- an accepted one continues the run
  pub record Done-run : Type 0 where
    pub is_run : run longer ≡ true
    pub state : c.state_after ≡ state_bytes (state_of longer)
    pub mean : c.out_after ≡ rolling_mean longer ∷ []

  pub done_run : c.answer ≡ Done → Done-run
  done_run d =
      let one = eqb-true (length c.out) 1 (passed Length (passed Length (done_accepted _ (rw d at m.meets))).1).0 in
      let (v, f, new) = both_passed (by_run one) d in
      let longer-run = run_more c.hour hs v m.hour_small f r in
      record {
        is_run = longer-run;
        state = sym (ap (λ p. p.0) new);
        mean = sym (ap (λ p. p.1) new) ∙ ap (λ z. z ∷ []) (figure_run longer longer-run);
      }

-- ---- runs of calls are runs

kept : (hs : List Hour) (state : List ℕ) → Gives hs state → (run hs ≡ true) × (state ≡ state_bytes (state_of hs))
kept [] state (old, m) =
    let fresh = (passed Length (done_accepted (fresh_outcome old) m)).1 in
    (refl, cc fresh)
kept (h ∷ hs) state g =
    let (r, is_state) = kept hs g.call.state g.before in
    let d = done_run hs g.call r is_state g.of_rolling g.accepted in
    subst (λ h. (run (h ∷ hs) ≡ true) × (state ≡ state_bytes (state_of (h ∷ hs)))) g.its_hour (d.is_run, sym g.after ∙ d.state)

gives : (hs : List Hour) → run hs ≡ true → Gives hs (state_bytes (state_of hs))
gives [] r = (replicate 64 0, pass Length refl (accept refl))
gives (h ∷ hs) r =
    let before = run_before h hs r in
    record {
      call =
          record {
            state = state_bytes (state_of hs);
            out = pos 0 ∷ [];
            hour = h;
            answer = Done;
            state_after = state_bytes (state_of (h ∷ hs));
            out_after = figure (state_of (h ∷ hs)).codes ∷ [];
          };
      of_rolling =
          record {
            meets = meets_as (rolling_run hs before h (pos 0 ∷ []) refl) (pass Reading (run_valid h hs r) (pass NoRun (run_follows h hs r) (accept refl)));
            hour_small = run_small h hs r;
          };
      before = gives hs before;
      its_hour = refl;
      accepted = refl;
      after = refl;
    }

-- ---- the refusals

-- behind the tests of the lengths
sized : (c : Step) → Rolls c → length c.state ≡ 64 → length c.out ≡ 1 → let s = state_from c.state in let n = c.hour.number in
    Meets {M = List ℕ × List ℤ} (tested s n c.hour.mean (accepted (state_bytes (advanced s n c.hour.mean), figure (advanced s n c.hour.mean).codes ∷ [])))
    c.answer (c.state, c.out) (c.state_after, c.out_after)
sized c m long one = on Length (eq-eqb _ _ one) (on Length (eq-eqb _ _ long) m.meets)

-- no test behind that of the mean gives 16
not_16 : {M : Type 0} (a b : Bool) (l : M) → answer (check a NoRun (check b NoRun (accepted l))) ≡ Refused Reading → ⊥
unfolding check answer
not_16 true true l e = let z : ◌≡◌ {A = ℕ} 0 1 = cc in omega arith
not_16 true false l e = let z : ◌≡◌ {A = ℕ} 0 1 = cc in omega arith
not_16 false b l e = let z : ◌≡◌ {A = ℕ} 0 1 = cc in omega arith

reading : {M : Type 0} (v a b : Bool) (l : M) {r : Answer} {old new : M} → Meets (check v Reading (check a NoRun (check b NoRun (accepted l)))) r old new
    → (r ≡ Refused Reading) ↔ (v ≡ false)
reading true a b l m = (λ e. absurd (not_16 a b l (sym (on Reading refl m).answers ∙ e)), λ e. absurd (false≢true (sym e)))
reading false a b l m = (λ e. refl, λ e. refused_on Reading _ refl m)

no_run : (c : Step) → Rolls c → Bytes c.state → length c.state ≡ 64 → length c.out ≡ 1 → valid c.hour.mean ≡ true
    → ((hs : List Hour) → Gives hs c.state → ⊥) → c.answer ≡ Refused NoRun
no_run c m bytes long one v none = by (possible (state_from c.state)) refl
  where
    by : (b : Bool) → possible (state_from c.state) ≡ b → c.answer ≡ Refused NoRun
    by true p = let (hs, r, e) = given_bytes c.state bytes long p in absurd (none hs (subst (Gives hs) (sym e) (gives hs r)))
    by false p = refused_on NoRun _ p (on Reading v (sized c m long one))

-- THEOREM
pub rolling_day : RollingDay
rolling_day =
    record {
      gives_rolling_mean = λ hs c g m d. let (r, e) = kept hs c.state g in (done_run hs c r e m d).mean;
      runs = λ hs state. (kept hs state, λ (r, e). rw e (gives hs r));
      reading_16 = λ c m long one. reading _ _ _ _ (sized c m long one);
      no_run_22 = no_run;
      at_next_hour = λ hs c g m one v.
          let (r, e) = kept hs c.state g in
          let d = decided _ (on Reading v (by_run hs c r e m one)) in
          (d.refuses, d.done);
      handed_back = λ c e m h.
          let same = m.meets.leaves ∙ refused_left _ (c.state, c.out) (sym m.meets.answers ∙ h) in
          (ap (λ p. p.0) same, ap (λ p. p.1) same);
      state_test = possible_exactly;
      step = stepped;
      one_form = λ hs gs a b g k.
          let (r, e) = kept hs a g in
          let (q, f) = kept gs b k in
          (λ h. sym (state_read hs r) ∙ ap state_from (sym e ∙ h ∙ f) ∙ state_read gs q, λ h. e ∙ ap state_bytes h ∙ sym f);
    }
