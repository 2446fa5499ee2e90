-- How an operation shows that it meets its outcome: test after test, then what it leaves in the lent memory.
use Prim.Native.Nat.{ℕ, ◌≤◌, zero-le}
use mathlib.Core.Bool.{Bool, true, false}
use mathlib.Core.Path.{◌≡◌, refl, ap, ◌∙◌}
use lib.IntN.{ℤ}
use Rattle.basics.specs.declared.Refusal.{Refusal}
use Prim.{tt}
use Rattle.std.specs.Prelude.{Result, Ok, Err, IfOk}
use Rattle.std.specs.Result.{IsErrAnd}
use Rattle.basics.specs.Outcome.{count_of, answer_by, Answer, Done, Counted, Refused, Outcome, refused, accepted, counted, check, answer, left, counts, status, Meets, Reports}

module _ {M : Type 0} where
  -- a test as an equation of outcomes
  pub check_true : {b : Bool} (e : Refusal) (o : Outcome M) → b ≡ true → check b e o ≡ o
  unfolding check
  check_true e o h = rw h

  pub check_false : {b : Bool} (e : Refusal) (o : Outcome M) → b ≡ false → check b e o ≡ refused e
  unfolding check
  check_false e o h = rw h

  -- the code went on after a test
  pub pass : (e : Refusal) {b : Bool} {o : Outcome M} {r : Answer} {old new : M} → b ≡ true → Meets o r old new → Meets (check b e o) r old new
  unfolding check
  pass e h m = rw h m

  -- the code refused at a test, before it wrote anything
  pub refuse : {b : Bool} {e : Refusal} (o : Outcome M) {old : M} → b ≡ false → Meets (check b e o) (Refused e) old old
  unfolding check answer left
  refuse o h = rw h (record { answers = refl; leaves = refl })

  -- the code did its work
  pub accept : {m old new : M} → new ≡ m → Meets (accepted m) Done old new
  unfolding answer left
  accept h = record { answers = refl; leaves = h }

  pub count : {n k : ℕ} {m old new : M} → k ≡ n → new ≡ m → Meets (counted n m) (Counted k) old new
  unfolding answer left
  count e h = record { answers = rw e; leaves = h }

  -- an outcome in other words
  pub meets_as : {o p : Outcome M} {r : Answer} {old new : M} → o ≡ p → Meets p r old new → Meets o r old new
  meets_as e m = rw e m

  -- ---- what an outcome says to the caller

  -- what is accepted has passed the test
  pub passed : {b : Bool} (e : Refusal) {o : Outcome M} {m : M} → check b e o ≡ accepted m → (b ≡ true) × (o ≡ accepted m)
  unfolding check
  passed {b = true} e q = (refl, q)
  passed {b = false} e q = (cc, cc)

  -- ---- as a C export reports it

  -- a test adds no count: what an outcome counts is at most what its last part counts
  pub counts_check : (n : ℕ) (b : Bool) (e : Refusal) (o : Outcome M) → counts (answer o) ≤ n → counts (answer (check b e o)) ≤ n
  unfolding check answer
  counts_check n true e o h = h
  counts_check n false e o h = zero-le

  -- the same, where the bound needs the test
  pub counts_if : (n : ℕ) (b : Bool) (e : Refusal) (o : Outcome M) → (b ≡ true → counts (answer o) ≤ n) → counts (answer (check b e o)) ≤ n
  unfolding check answer
  counts_if n true e o h = h refl
  counts_if n false e o h = zero-le

  pub counts_counted : (n : ℕ) (k : ℕ) (m : M) → k ≤ n → counts (answer (counted k m)) ≤ n
  unfolding answer
  counts_counted n k m h = h

  pub counts_accepted : (n : ℕ) (m : M) → counts (answer (accepted m)) ≤ n
  unfolding answer
  counts_accepted n m = zero-le

  pub report : {o : Outcome M} {a : Answer} {r : ℤ} {old new : M} → Meets o a old new → r ≡ status a → Reports o r old new
  report m e = record { reports = e ∙ ap status m.answers; leaves = m.leaves }

-- ---- two lists are lent: each is shown by itself

module _ {M₁ M₂ : Type 0} where
  pub accept_pair : {l₁ new₁ : M₁} {l₂ new₂ : M₂} {old : M₁ × M₂} → new₁ ≡ l₁ → new₂ ≡ l₂ → Meets (accepted (l₁, l₂)) Done old (new₁, new₂)
  accept_pair e₁ e₂ = accept (rw (e₁, e₂))

  pub count_pair : {n k : ℕ} {l₁ new₁ : M₁} {l₂ new₂ : M₂} {old : M₁ × M₂} → k ≡ n → new₁ ≡ l₁ → new₂ ≡ l₂ → Meets (counted n (l₁, l₂)) (Counted k) old (new₁, new₂)
  count_pair e e₁ e₂ = count e (rw (e₁, e₂))

-- ---- a `?` passed a refusal on: what was lent is as it was

module _ {A : Type 0} (f : A → Answer) where
  pub exit_answer : {e : Refusal} {a : Answer} (r : Result A Refusal) → IsErrAnd r (λ d. d ≡ e) → Refused e ≡ a → answer_by f r ≡ a
  exit_answer (Ok x) h k = absurd h
  exit_answer (Err d) h k = rw h k

module _ {M A : Type 0} (f : A → Answer) where
  pub exit : {o : Outcome M} {e : Refusal} {old : M} (r : Result A Refusal) → IsErrAnd r (λ d. d ≡ e) → Meets o (Refused e) old old
      → Meets o (answer_by f r) old old
  exit (Ok a) h m = absurd h
  exit (Err d) h m = rw h m

-- a bound on what is counted, as one on the function's result
pub count_small : (most : ℕ) (r : Result ℕ Refusal) → counts (count_of r) ≤ most → IfOk r (λ n. n ≤ most)
count_small most (Ok n) h = h
count_small most (Err e) h = tt

pub count_within : {M : Type 0} {o : Outcome M} {old new : M} (most : ℕ) (r : Result ℕ Refusal) → Meets o (count_of r) old new → counts (answer o) ≤ most
    → IfOk r (λ n. n ≤ most)
count_within most r m h = count_small most r (rw m.answers h)
