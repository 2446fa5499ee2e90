-- A run's state in bytes: it is read as it was stored, so a call on it goes by the run; and bytes that pass the test are those of some run.
use Prim.Native.Nat.{ℕ, ◌^◌}
use mathlib.Core.Path.{◌≡◌, sym, ◌∙◌, ap}
use mathlib.Core.Bool.{true}
use mathlib.Core.List.{List, [], ◌∷◌, ◌++◌, map}
use native.Mathlib.Omega.{arith}
use borrow.Author.Tests.{lt-ltb, eq-eqb}
use lib.Dec.{ltb}
use lib.IntN.{ℤ}
use lib.ListN.{length, replicate, length-append, length-replicate}
use lib.Seq.{length-take-le}
use Rattle.basics.specs.Outcome.{Outcome, accepted, check}
use Rattle.basics.specs.SetBits.{Bytes}
use Rattle.basics.specs.declared.Refusal.TheVariants.{Reading, NoRun}
use Rattle.basics.proofs.Lists.{all_weaker, length_table}
use Rattle.basics.proofs.Outcomes.{check_true}
use Rattle.hours.specs.Packing.{valid, encode, is_code}
use Rattle.hours.proofs.Numbers.{code_fits}
use Rattle.rolling.specs.Runs.{Hour, follows, run}
use Rattle.rolling.specs.State.{held, state_of, possible, figure, tested, step_outcome}
use Rattle.rolling.specs.Bytes.{numbers, state_bytes, state_from, rolling_outcome}
use Rattle.rolling.proofs.InBytes.{number_at, length_state, same_bytes, same_state}
use Rattle.rolling.proofs.Steps.{possible_says}
use Rattle.rolling.proofs.Runs.{means, possible_run, continues_run, advanced_run}
use Rattle.rolling.proofs.Reached.{possible_exactly}

held_length : (ms : List ℤ) → length (held ms) ≡ 24
unfolding held
held_length ms =
    let l = map encode ms ++ replicate 24 32767 in
    length-take-le 24 l (omega (arith, length-append (map encode ms) (replicate 24 32767), length-replicate {A = ℕ} 24 32767))

pub state_length : (hs : List Hour) → length (state_bytes (state_of hs)) ≡ 64
state_length hs = length_state (state_of hs) (held_length (means hs))

module _ (hs : List Hour) (r : run hs ≡ true) where
  pub state_read : state_from (state_bytes (state_of hs)) ≡ state_of hs
  state_read =
      let p = possible_says (state_of hs) (possible_run hs r) in
      let small = all_weaker is_code (λ c. ltb c (2 ^ 16)) (held (means hs)) (λ c e. lt-ltb c (2 ^ 16) (omega (arith, code_fits c e))) p.all_codes in
      same_state (state_of hs) (held_length (means hs)) small (omega (arith, p.next_small)) (omega arith)

  -- the tests of a step from the run's state: 16, then 22 where the hour does not follow
  tested_run : {M : Type 0} (n : ℕ) (z : ℤ) (o : Outcome M) → tested (state_of hs) n z o ≡ check (valid z) Reading (check (follows hs n) NoRun o)
  tested_run n z o = rw (continues_run hs n) (ap (check (valid z) Reading) (check_true NoRun _ (possible_run hs r)))

  pub step_run : (h : Hour) → step_outcome (state_of hs) h.number h.mean
      ≡ check (valid h.mean) Reading (check (follows hs h.number) NoRun (accepted (state_of (h ∷ hs), figure (state_of (h ∷ hs)).codes)))
  step_run h = rw (advanced_run hs h) (tested_run h.number h.mean _)

  pub rolling_run : (h : Hour) (out : List ℤ) → length out ≡ 1 → rolling_outcome (state_bytes (state_of hs)) h.number h.mean out
      ≡ check (valid h.mean) Reading (check (follows hs h.number) NoRun (accepted (state_bytes (state_of (h ∷ hs)), figure (state_of (h ∷ hs)).codes ∷ [])))
  rolling_run h out e =
      check_true _ _ (eq-eqb _ _ (state_length hs))
      ∙ check_true _ _ (eq-eqb _ _ e)
      ∙ rw (state_read, advanced_run hs h) (tested_run h.number h.mean _)

-- bytes that pass the test
pub given_bytes : (b : List ℕ) → Bytes b → length b ≡ 64 → possible (state_from b) ≡ true → (hs : List Hour) × (run hs ≡ true) × (b ≡ state_bytes (state_of hs))
unfolding state_from numbers
given_bytes b h e p =
    let g = (possible_exactly (state_from b) (length_table (number_at 2 b) 24)).0 p in
    (g.hours, g.is_run, sym (same_bytes b h e) ∙ ap state_bytes (sym g.gives))
